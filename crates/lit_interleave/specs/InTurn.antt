-- The accesses of an interleaving, in the order in which they are made, and the executions of a schedule (this project's
-- own).
use Rattle.std.specs.Prelude.{◌≡◌, ℕ, ◌+◌, if◌then◌else◌, None, Some, List, [], ◌∷◌, ◌++◌}
use Rattle.std.specs.Prelude.{length, map, replicate, slice_index}
use Rattle.std.specs.List.{range_with_len}
use Rattle.lit_syntax.specs.Syntax.{Statement, Statements, Load, Store, Exchange, CompareExchange, If, End, Then, Litmus}
use Rattle.lit_paths.specs.Event.{event_at}
use Rattle.lit_paths.specs.Execution.{Execution, execution_events, execution_outcome}
use Rattle.lit_paths.specs.Run.{compares}
use Rattle.lit_order.specs.MemoryOrder.{IsMemoryOrder}
use Rattle.lit_interleave.specs.Interleaving.{Contents, Moment, after_each, after_end, after_statement, after_turn}
use Rattle.lit_interleave.specs.Interleaving.{beginning, found_by, from_access, interleaved, progress_of}
use Rattle.lit_interleave.specs.Sequential.{IsSequential}
use Rattle.lit_valid.specs.ValidExecution.{IsValidExecution}

-- how many accesses a statement makes, or statements make, that are carried out to the end
abbrev mutual
  pub statement_accesses : Statement → Contents → ℕ
  statement_accesses (Load reg window index atomic) c = 1
  statement_accesses (Store window index value atomic) c = 1
  statement_accesses (Exchange reg window index value) c = 1
  statement_accesses (CompareExchange reg window index expected value) c = 1
  statement_accesses (If reg equal value body other) c =
      if compares equal (slice_index c.registers reg) value then accesses body c else accesses other c

  pub accesses : Statements → Contents → ℕ
  accesses End c = 0
  accesses (Then s ss) c = statement_accesses s c + accesses ss (after_statement s c)

-- ---- who makes them
-- an agent that has these statements from its next access on, where it has one
abbrev pub next_maker : ℕ → Statements → List ℕ
next_maker agent End = []
next_maker agent (Then s ss) = agent ∷ []

-- an agent, once for each access that it makes in a turn
abbrev pub made_in_turn : Moment → ℕ → List ℕ
made_in_turn m agent = next_maker agent (from_access (progress_of m agent).registers (progress_of m agent).left)

-- an agent, once for each access that it has left
abbrev pub made_at_end : Moment → ℕ → List ℕ
made_at_end m agent = replicate (accesses (progress_of m agent).left (found_by m agent)) agent

-- for these agents, one after the other
abbrev pub made_by_each : (step : Moment → ℕ → Moment) → (made : Moment → ℕ → List ℕ) → Moment → List ℕ → List ℕ
made_by_each step made m [] = []
made_by_each step made m (agent ∷ agents) = made m agent ++ made_by_each step made (step m agent) agents

-- which agent makes each access of a schedule, in the order in which they are made
abbrev pub makers_of : Litmus → List ℕ → List ℕ
makers_of t schedule =
    made_by_each after_turn made_in_turn (beginning t) schedule
    ++ made_by_each after_end made_at_end (after_each after_turn (beginning t) schedule) (range_with_len 0 (length t.agents))

-- ---- the execution of a schedule
-- A valid execution with the outcome of the schedule. Each read takes what was written last before it in a list of all
-- events, which is a memory-order: the events that make the block, and then the accesses in the order of their turns.
pub record IsOfSchedule (t : Litmus) (schedule : List ℕ) (x : Execution) (order : List ℕ) : Type 0 where
  pub valid : IsValidExecution t x
  pub result : execution_outcome t x ≡ interleaved t schedule
  pub sequential : IsSequential (execution_events t x) x.sources order
  pub ordered : IsMemoryOrder (execution_events t x) x.sources order
  pub in_turn : map (λ e. (event_at (execution_events t x) e).owner) order
      ≡ replicate t.bytes None ++ map (λ agent. Some agent) (makers_of t schedule)

-- the schedule has such an execution
abbrev pub HasExecution : Litmus → List ℕ → Type 0
HasExecution t schedule = (x : Execution) × (order : List ℕ) × IsOfSchedule t schedule x order
