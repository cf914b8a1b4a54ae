-- Runs on the paths of a combination whose reads are given the values that they take from the sources.
use Rattle.std.specs.Prelude.{◌≡◌, ℕ, List, [], length, map, Some, slice_get, slice_index_or}
use Rattle.lit_syntax.specs.Syntax.{Litmus, agent_of}
use Rattle.lit_paths.specs.Path.{Path}
use Rattle.lit_paths.specs.Plan.{combination_at, events_in, first_event}
use Rattle.lit_paths.specs.Run.{Run, IsRun, run_path}
use Rattle.lit_rel.specs.ReadsFrom.{value_of}
use Rattle.lit_valid.specs.ValidExecution.{read_numbers_from}

-- the path of an agent in a combination; past the last agent, a path of nothing
abbrev pub path_at : Litmus → ℕ → ℕ → Path
path_at t c agent = slice_index_or (combination_at t c) agent (record { decisions = []; events = [] })

-- the values that the reads of an agent take from the sources, in order
abbrev pub taken_by : Litmus → ℕ → List ℕ → ℕ → List ℕ
taken_by t c sources agent = map (value_of (events_in t c) sources) (read_numbers_from (first_event t c agent) (path_at t c agent).events)

-- a run of an agent on its path, with these values
pub record IsGivenRun (t : Litmus) (c : ℕ) (sources : List ℕ) (agent : ℕ) (run : Run) : Type 0 where
  pub is_run : IsRun agent (agent_of t agent).body run
  pub on_path : run_path run ≡ path_at t c agent
  pub given : run.values ≡ taken_by t c sources agent

-- the agent has such a run
abbrev pub HasGivenRun : Litmus → ℕ → List ℕ → ℕ → Type 0
HasGivenRun t c sources agent = (run : Run) × IsGivenRun t c sources agent run

-- such a run for each agent
pub record AreGivenRuns (t : Litmus) (c : ℕ) (sources : List ℕ) (runs : List Run) : Type 0 where
  pub one_each : length runs ≡ length t.agents
  pub each : (i : ℕ) (run : Run) → slice_get runs i ≡ Some run → IsGivenRun t c sources i run
