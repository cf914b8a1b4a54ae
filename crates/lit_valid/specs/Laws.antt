-- Laws of the crates below that the proofs of this one cite together.
use Rattle.std.specs.Prelude.{◌≡◌, ℕ, ◌+◌, ◌<◌, ◌≤◌, List, length}
use Rattle.lit_syntax.specs.Syntax.{AreStatementsIn, IsLitmus, Litmus, Statements}
use Rattle.lit_paths.specs.declared.event.Event.{Event}
use Rattle.lit_paths.specs.Choice.{combinations_of}
use Rattle.lit_paths.specs.Members.{IsChoice, ListsChoices, ListsCombinations, IsWalk}
use Rattle.lit_paths.specs.Execution.{Execution, IsCandidateExecution, execution_choice}
use Rattle.lit_paths.specs.Numbers.{NumbersChoices}
use Rattle.lit_paths.specs.Path.{Step, path_on}
use Rattle.lit_paths.specs.PathModel.{path_model}
use Rattle.lit_paths.specs.Plan.{IsOfCombination, IsWalkIn, choices_before, walk_in}
use Rattle.lit_paths.specs.Run.{IsRun, Run}
use Rattle.lit_paths.specs.Told.{TellsRuns, read_places}
use Rattle.lit_rel.specs.Growth.{GrowWithBytes, ValuesStay}
use Rattle.lit_rel.specs.ByteReadList.{AreOfEvents}

-- a run has one value for each of its reads
abbrev pub ChooseForEachRead : Type 0
ChooseForEachRead = (owner : ℕ) (body : Statements) (run : Run) → IsRun owner body run → length run.values ≡ length (read_places run.events)

pub record Laws : Type 0 where
  pub walked : (t : Litmus) (c agent : ℕ) → IsLitmus t → c < length (combinations_of t) → agent < length t.agents
      → IsWalkIn t c agent (walk_in t c agent)
  pub tell : (bytes owner : ℕ) (body : Statements) (steps : List Step) → AreStatementsIn bytes body → IsWalk body steps
      → TellsRuns owner body (path_on owner steps) (path_model owner steps)
  pub choose : ChooseForEachRead
  pub listed : (t : Litmus) → ListsCombinations t
  pub chosen : (t : Litmus) → ListsChoices t
  pub choice : (t : Litmus) (x : Execution) → IsCandidateExecution t x → IsChoice t (execution_choice x)
  pub numbered : (t : Litmus) (c : ℕ) → c < length (combinations_of t) → NumbersChoices t c
  pub placed : (t : Litmus) (n c : ℕ) → c < length (combinations_of t) → choices_before t c ≤ n → n < choices_before t (c + 1)
      → IsOfCombination t n c
  pub grow : GrowWithBytes
  pub stay : ValuesStay
  pub of_events : (events : List Event) → AreOfEvents events
