-- How a list of cases grows.
use Rattle.std.specs.Prelude.{◌≡◌, Bool, IsTrue, List, ◌++◌}
use Rattle.lit_solve.specs.Box.{Box}
use Rattle.lit_why.specs.Refutation.{AreCases, AreWhole}
use Rattle.lit_why.specs.declared.cases.covering.Case.{Case}

-- a list goes on by cases of a box, which are the whole of it where they are said to be all
pub record AddsCases (box : Box) (old new : List Case) (all : Bool) : Type 0 where
  pub added : List Case
  pub goes_on : new ≡ old ++ added
  pub each : AreCases box added
  pub whole : IsTrue all → AreWhole box added
