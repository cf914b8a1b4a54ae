-- What a place did, as an account: the tickets that it took, and what it told and saw in each class.
use Rattle.std.specs.Prelude.{ℕ, List, [], ◌∷◌, ◌++◌}
use Rattle.lit_desk.specs.declared.account.Account.{Account}
use Rattle.lit_desk.specs.declared.account.Numbers.{Numbers}
use Rattle.lit_desk.specs.declared.class.Class2.{Class2}
use Rattle.lit_desk.specs.declared.class.Class2.TheVariants.{Met, Unmet}

abbrev pub numbers : List ℕ → List ℕ → Numbers
numbers told seen = record { told = told; seen = seen }

-- nothing was done, by so many places
abbrev pub new_account : ℕ → Account
new_account places = record { tickets = []; met = numbers [] []; unmet = numbers [] []; places = places }

-- the numbers of a class
abbrev pub numbers_in : Class2 → Account → Numbers
numbers_in Met a = a.met
numbers_in Unmet a = a.unmet

abbrev pub with_numbers : Class2 → Account → Numbers → Account
with_numbers Met a ns = record { tickets = a.tickets; met = ns; unmet = a.unmet; places = a.places }
with_numbers Unmet a ns = record { tickets = a.tickets; met = a.met; unmet = ns; places = a.places }

-- the account once a ticket was taken, a number told in a class, or one seen there
abbrev pub took : Account → ℕ → Account
took a n = record { tickets = a.tickets ++ n ∷ []; met = a.met; unmet = a.unmet; places = a.places }

abbrev pub told : Class2 → Account → ℕ → Account
told class a n = with_numbers class a (numbers ((numbers_in class a).told ++ n ∷ []) (numbers_in class a).seen)

abbrev pub saw : Class2 → Account → ℕ → Account
saw class a n = with_numbers class a (numbers (numbers_in class a).told ((numbers_in class a).seen ++ n ∷ []))
