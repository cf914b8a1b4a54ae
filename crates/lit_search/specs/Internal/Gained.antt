-- What a search adds to a table by the choices that it searches.
use Rattle.std.specs.Prelude.{◌≡◌, ◌↔◌, ◌⊎◌, ℕ, ◌<◌, Bool, IsTrue, List, ◌++◌}
use Rattle.lit_syntax.specs.Syntax.{Litmus}
use Rattle.lit_valid.specs.Entry.{HasOutcome}
use Rattle.lit_valid.specs.Gives.{Gives, GivesRace, HasLeastOrder}
use Rattle.lit_search.specs.Report.{Entry, HasEntry}

-- The entry is of a choice with one of the numbers. Of the choices with these numbers no lesser one gives its outcome, and its order is
-- the least.
pub record IsLeastOf (t : Litmus) (Numbers : ℕ → Type 0) (entry : Entry) : Type 0 where
  pub among : Numbers entry.choice
  pub gives : Gives t entry.choice entry.outcome
  pub least_choice : (n : ℕ) → Numbers n → n < entry.choice → ¬ Gives t n entry.outcome
  pub least_order : HasLeastOrder t entry.choice entry.order

-- one list begins with another
pub record GoesOn (old new : List Entry) : Type 0 where
  pub added : List Entry
  pub is : new ≡ old ++ added

-- A list goes on by outcomes of the choices with these numbers that it lacked, each with its least example, and has all
-- outcomes of these choices then. A data race that was there stays, and one comes exactly where one of them has a data race.
pub record Gains (t : Litmus) (Numbers : ℕ → Type 0) (old new : List Entry) (before now : Bool) : Type 0 where
  pub goes_on : GoesOn old new
  pub each : (entry : Entry) → HasEntry goes_on.added entry → IsLeastOf t Numbers entry
  pub lacked : (entry : Entry) → HasEntry goes_on.added entry → ¬ HasOutcome old entry.outcome
  pub whole : (n : ℕ) (outcome : List ℕ) → Numbers n → Gives t n outcome → HasOutcome new outcome
  pub race : IsTrue now ↔ (IsTrue before ⊎ ((n : ℕ) × Numbers n × GivesRace t n))
