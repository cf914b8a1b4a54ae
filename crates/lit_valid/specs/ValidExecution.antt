-- Valid executions (ECMA-262, 2024, 29.7).
use Rattle.std.specs.Prelude.{◌≡◌, ℕ, ◌+◌, if◌then◌else◌, List, [], ◌∷◌, map}
use Rattle.std.specs.List.{flat_map}
use Rattle.lit_syntax.specs.Syntax.{Litmus}
use Rattle.lit_paths.specs.declared.event.Event.{Event}
use Rattle.lit_paths.specs.Event.{does_read}
use Rattle.lit_paths.specs.Execution.{Execution, execution_events, IsCandidateExecution}
use Rattle.lit_rel.specs.ReadsFrom.{value_of}
use Rattle.lit_rel.specs.HappensBefore.{HappensBefore}
use Rattle.lit_rel.specs.Coherent.{HasCoherentReads}
use Rattle.lit_rel.specs.TearFree.{HasTearFreeReads}
use Rattle.lit_order.specs.MemoryOrder.{IsMemoryOrder}

-- the numbers of the reads, rising, among events of which the first has number n
abbrev pub read_numbers_from : ℕ → List Event → List ℕ
read_numbers_from n [] = []
read_numbers_from n (e ∷ es) = if does_read e.kind then n ∷ read_numbers_from (n + 1) es else read_numbers_from (n + 1) es

-- Valid chosen reads (29.7.1): each value that an agent was given is the composed value of its read. The reading
-- statements of the runs, agent after agent, are the reads by rising number.
abbrev pub HasValidChosenReads : Litmus → Execution → Type 0
HasValidChosenReads t x =
    flat_map (λ run. run.values) x.runs ≡ map (value_of (execution_events t x) x.sources) (read_numbers_from 0 (execution_events t x))

-- a valid execution (29.7.5)
pub record IsValidExecution (t : Litmus) (x : Execution) : Type 0 where
  pub candidate : IsCandidateExecution t x
  pub no_cycle : (e : ℕ) → ¬ HappensBefore (execution_events t x) x.sources e e
  pub chosen_reads : HasValidChosenReads t x
  pub coherent_reads : HasCoherentReads (execution_events t x) x.sources
  pub tear_free_reads : HasTearFreeReads (execution_events t x) x.sources
  pub ordered : (order : List ℕ) × IsMemoryOrder (execution_events t x) x.sources order
