-- The runs on a path, by its guards: when its decisions agree with chosen values, and which of these values the
-- registers hold at the end (this project's own).
use Rattle.std.specs.Prelude.{◌≡◌, ℕ, ◌==◌, Bool, true, if◌then◌else◌, Option, Some, None, List, [], ◌∷◌, length, map}
use Rattle.std.specs.List.{list_all, zip}
use Rattle.lit_syntax.specs.Syntax.{Statements}
use Rattle.lit_paths.specs.declared.event.Event.{Event}
use Rattle.lit_paths.specs.declared.path.Tested.{Tested}
use Rattle.lit_paths.specs.Event.{does_read}
use Rattle.lit_paths.specs.Path.{Path}
use Rattle.lit_paths.specs.PathModel.{PathModel}
use Rattle.lit_paths.specs.Run.{Run, IsRun, compares, run_path}

-- the places of the events that read, in order
abbrev pub read_places : List Event → List ℕ
read_places [] = []
read_places (e ∷ es) = if does_read e.kind then e.place ∷ read_places es else read_places es

-- the values chosen on a path, each with the place of its read
abbrev pub chosen_on : List Event → List ℕ → List (ℕ × ℕ)
chosen_on events values = zip (read_places events) values

-- the value with a place
abbrev pub value_at : List (ℕ × ℕ) → ℕ → ℕ
value_at [] place = 0
value_at (p ∷ ps) place = if p.0 == place then p.1 else value_at ps place

-- the value of the read at a place, or 0 where a register was not written
abbrev pub value_on : List (ℕ × ℕ) → Option ℕ → ℕ
value_on chosen None = 0
value_on chosen (Some place) = value_at chosen place

-- whether a guard is true of the chosen values
abbrev pub is_true_of : List (ℕ × ℕ) → Tested → Bool
is_true_of chosen test = compares test.equal (value_on chosen test.on) test.value

-- For each list of values, one for each read on the path, there is a run with them on this path exactly where each guard
-- is true of them, and then each register holds the value of the read that `last` names.
pub record TellsRuns (owner : ℕ) (body : Statements) (path : Path) (told : PathModel) : Type 0 where
  pub events : told.events ≡ path.events
  pub run : (values : List ℕ) → length values ≡ length (read_places path.events)
      → list_all (is_true_of (chosen_on path.events values)) told.tests ≡ true
      → IsRun owner body
      (record {
        values = values;
        decisions = path.decisions;
        events = path.events;
        registers = map (value_on (chosen_on path.events values)) told.last;
      })
  pub one_each : (run : Run) → IsRun owner body run → run_path run ≡ path → length run.values ≡ length (read_places path.events)
  pub true_of : (run : Run) → IsRun owner body run → run_path run ≡ path
      → list_all (is_true_of (chosen_on path.events run.values)) told.tests ≡ true
  pub observed : (run : Run) → IsRun owner body run → run_path run ≡ path
      → run.registers ≡ map (value_on (chosen_on path.events run.values)) told.last
