-- The goal of a search: which valid executions meet it (this project's own).
use Rattle.std.specs.Prelude.{IsTrue, ⊤}
use Rattle.lit_syntax.specs.Syntax.{Litmus}
use Rattle.lit_paths.specs.Execution.{Execution, execution_events, execution_outcome}
use Rattle.lit_rel.specs.DataRace.{HasDataRace}
use Rattle.lit_valid.specs.Class.{is_of_class}
use Rattle.lit_solve.specs.declared.goal.Goal.{Goal}
use Rattle.lit_solve.specs.declared.goal.Goal.TheVariants.{Any, OfClass, Race}

-- the execution meets the goal
abbrev pub MeetsGoal : Litmus → Goal → Execution → Type 0
MeetsGoal t Any x = ⊤
MeetsGoal t (OfClass class) x = IsTrue (is_of_class t class (execution_outcome t x))
MeetsGoal t Race x = HasDataRace (execution_events t x) x.sources
