-- Candidate executions (ECMA-262, 2024, 29.4).
use Rattle.std.specs.Prelude.{◌≡◌, ℕ, List, Contains, length, map, Some, slice_get}
use Rattle.lit_syntax.specs.Syntax.{Litmus, agent_of}
use Rattle.lit_paths.specs.declared.event.Event.{Event}
use Rattle.lit_paths.specs.Run.{Run, IsRun}
use Rattle.lit_paths.specs.Choice.{Choice, events_of, sources_of}
use Rattle.lit_paths.specs.Outcome.{outcome_of}

-- a run for each agent, and the source of each byte read
pub record Execution : Type 0 where
  pub runs : List Run
  pub sources : List ℕ

-- its events: those that make the block, and then each agent's in order
abbrev pub execution_events : Litmus → Execution → List Event
execution_events t x = events_of t.bytes (map (λ run. run.events) x.runs)

-- its decisions and its sources
abbrev pub execution_choice : Execution → Choice
execution_choice x = record { decisions = map (λ run. run.decisions) x.runs; sources = x.sources }

-- what its registers hold in the end
abbrev pub execution_outcome : Litmus → Execution → List ℕ
execution_outcome t x = outcome_of t (map (λ run. run.registers) x.runs)

-- a run of each agent, and sources that the byte reads can have
pub record IsCandidateExecution (t : Litmus) (x : Execution) : Type 0 where
  pub one_each : length x.runs ≡ length t.agents
  pub each : (i : ℕ) (run : Run) → slice_get x.runs i ≡ Some run → IsRun i (agent_of t i).body run
  pub sourced : Contains (sources_of (execution_events t x)) x.sources
