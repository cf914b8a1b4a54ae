-- The rule of a desk: an invariant of its words and of the accounts of all its seats, between any two steps.
use Rattle.std.specs.Prelude.{◌≡◌, ◌≤◌, ℕ, zero, suc, ◌+◌, List, [], ◌∷◌, length, All, Contains, filter, sum_by, nat_le}
use Rattle.std.specs.List.{flat_map}
use Rattle.std.specs.List.Sorted.{IsPermutation}
use Rattle.lit_desk.specs.declared.account.Account.{Account}
use Rattle.lit_desk.specs.declared.class.Class2.{Class2}
use Rattle.lit_desk.specs.declared.class.Class2.TheVariants.{Met, Unmet}
use Rattle.lit_desk.specs.declared.rule.Terms.{Terms}
use Rattle.lit_desk.specs.Accounts.{new_account, numbers_in}
use Rattle.lit_desk.specs.Desk.{IsLeastOf}
use Rattle.lit_desk.specs.Internal.Words.{number_in}

abbrev pub numbers_below : ℕ → List ℕ
numbers_below zero = []
numbers_below (suc n) = n ∷ numbers_below n

abbrev pub all_tickets : List Account → List ℕ
all_tickets views = flat_map (λ (v : Account). v.tickets) views

-- the tickets that are no piece
abbrev pub late_of : ℕ → Account → List ℕ
late_of pieces v = filter (λ n. nat_le pieces n) v.tickets

abbrev pub all_told_in : Class2 → List Account → List ℕ
all_told_in class views = flat_map (λ (v : Account). (numbers_in class v).told) views

abbrev pub all_seen_in : Class2 → List Account → List ℕ
all_seen_in class views = flat_map (λ (v : Account). (numbers_in class v).seen) views

-- of one class: its word is the least told, or says that none was; each number seen was told, and is no lower than the word
pub record IsLeastTold (word : ℕ) (told seen : List ℕ) : Type 0 where
  pub least : IsLeastOf told (number_in word)
  pub all_seen : All (λ n. Contains told n × (word ≤ n)) seen

-- the tickets of all seats are the numbers below the first word, each once; each seat stands for a number of places and
-- has at most as many late tickets, and these numbers add up to the seats; a seat that stands for no place has done nothing
pub record AreFair (terms : Terms) (next met unmet : ℕ) (views : List Account) : Type 0 where
  pub tickets : IsPermutation (all_tickets views) (numbers_below next)
  pub late : All (λ v. length (late_of terms.pieces v) ≤ v.places) views
  pub places : sum_by (λ v. v.places) views ≡ terms.seats
  pub reached : next ≤ terms.pieces + sum_by (λ v. length (late_of terms.pieces v)) views
  pub met_least : IsLeastTold met (all_told_in Met views) (all_seen_in Met views)
  pub unmet_least : IsLeastTold unmet (all_told_in Unmet views) (all_seen_in Unmet views)
  pub spent : All (λ v. v.places ≡ 0 → v ≡ new_account 0) views

abbrev pub IsFair : Terms → List ℕ → List Account → Type 0
IsFair terms words views = (next : ℕ) × (met : ℕ) × (unmet : ℕ) × (words ≡ next ∷ met ∷ unmet ∷ []) × AreFair terms next met unmet views
