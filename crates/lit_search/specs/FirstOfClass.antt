-- The first choice of a class of outcomes (this project's own).
use Rattle.std.specs.Prelude.{ℕ, ◌<◌, Bool, IsTrue}
use Rattle.lit_syntax.specs.Syntax.{Litmus}
use Rattle.lit_valid.specs.declared.class.Class.{Class}
use Rattle.lit_valid.specs.Class.{GivesClass}

-- none of these numbers is that of a choice that gives the class
abbrev pub HasNoneOf : Litmus → Class → (ℕ → Bool) → Type 0
HasNoneOf t class numbers = (n : ℕ) → IsTrue (numbers n) → ¬ GivesClass t class n

-- of these numbers, the least of a choice that gives the class
pub record IsFirstOf (t : Litmus) (class : Class) (numbers : ℕ → Bool) (n : ℕ) : Type 0 where
  pub among : IsTrue (numbers n)
  pub gives : GivesClass t class n
  pub least : (m : ℕ) → IsTrue (numbers m) → m < n → ¬ GivesClass t class m
