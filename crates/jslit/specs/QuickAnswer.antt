-- The quick answer on a test, with its outcomes (this project's own).
use Rattle.std.specs.Prelude.{◌≡◌, ℕ, List, Option, MatchOption, length}
use Rattle.lit_syntax.specs.Syntax.{Litmus}
use Rattle.lit_paths.specs.Choice.{choices_of}
use Rattle.lit_valid.specs.declared.class.Class.{Class}
use Rattle.lit_search.specs.FirstOfClass.{HasNoneOf, IsFirstOf}
use Rattle.lit_valid.specs.Gives.{Gives, HasLeastOrder}
use Rattle.lit_search.specs.Report.{Entry, in_range}

-- Of all choices the first with a valid execution whose outcome is in the class, with its outcome, which is its only one,
-- and its least memory-order.
pub record IsFirstEntry (t : Litmus) (class : Class) (entry : Entry) : Type 0 where
  pub first : IsFirstOf t class (in_range 0 (length (choices_of t))) entry.choice
  pub gives : Gives t entry.choice entry.outcome
  pub only : (outcome : List ℕ) → Gives t entry.choice outcome → outcome ≡ entry.outcome
  pub least_order : HasLeastOrder t entry.choice entry.order

-- the first entry of a class, or that no choice gives the class
abbrev pub IsFirst : Litmus → Class → Option Entry → Type 0
IsFirst t class first = MatchOption first (HasNoneOf t class (in_range 0 (length (choices_of t)))) (IsFirstEntry t class)
