-- The classes of outcomes, by the test's condition (this project's own).
use Rattle.std.specs.Prelude.{ℕ, Bool, IsTrue, not, List}
use Rattle.lit_syntax.specs.Syntax.{Litmus}
use Rattle.lit_paths.specs.Outcome.{meets}
use Rattle.lit_valid.specs.declared.class.Class.{Class}
use Rattle.lit_valid.specs.declared.class.Class.TheVariants.{Met, Unmet}
use Rattle.lit_valid.specs.Gives.{Gives}

-- whether an outcome is in a class
abbrev pub is_of_class : Litmus → Class → List ℕ → Bool
is_of_class t Met outcome = meets t outcome
is_of_class t Unmet outcome = not (meets t outcome)

-- Some valid execution with an outcome in the class has the choice with this number.
pub record GivesClass (t : Litmus) (class : Class) (n : ℕ) : Type 0 where
  pub outcome : List ℕ
  pub gives : Gives t n outcome
  pub of_class : IsTrue (is_of_class t class outcome)
