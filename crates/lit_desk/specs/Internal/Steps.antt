-- The steps of a desk: how each changes the account of the seat that takes it, and what that seat learns.
use Rattle.std.specs.Prelude.{◌≡◌, ◌<◌, ◌≤◌, ℕ, [], All, MatchOption}
use Rattle.lit_desk.specs.declared.account.Account.{Account}
use Rattle.lit_desk.specs.declared.class.Class2.{Class2}
use Rattle.lit_desk.specs.Accounts.{numbers_in, took, told, saw}
use Rattle.lit_desk.specs.Internal.Words.{class_of, number_in}

-- the number found joins the tickets, and is above each of them
abbrev pub Takes : Account → ℕ → Account → Type 0
Takes old found new = (new ≡ took old found) × All (λ n. n < found) old.tickets

-- the number joins those told in the word's class
abbrev pub Tells : ℕ → Account → ℕ → Account → Type 0
Tells word old number new = new ≡ told (class_of word) old number

-- the number found, where there is one, joins those seen, and is no higher than what this seat told or saw;
-- where there is none, this seat told and saw none
abbrev pub SeesIn : Class2 → Account → ℕ → Account → Type 0
SeesIn class old found new =
    MatchOption (number_in found) ((new ≡ old) × ((numbers_in class old).told ≡ []) × ((numbers_in class old).seen ≡ []))
    (λ n. (new ≡ saw class old n) × All (λ m. n ≤ m) (numbers_in class old).told × All (λ m. n ≤ m) (numbers_in class old).seen)

abbrev pub Sees : ℕ → Account → ℕ → Account → Type 0
Sees word old found new = SeesIn (class_of word) old found new
