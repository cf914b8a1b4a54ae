-- The accounts of several places, merged to one.
use Rattle.std.specs.Prelude.{◌+◌, List, [], ◌∷◌, ◌++◌}
use Rattle.lit_desk.specs.declared.account.Account.{Account}
use Rattle.lit_desk.specs.declared.account.Numbers.{Numbers}
use Rattle.lit_desk.specs.Accounts.{numbers, new_account}
use Rattle.lit_desk.specs.Desk.{PlaceLists}

abbrev pub merged_numbers : Numbers → Numbers → Numbers
merged_numbers xs ys = numbers (xs.told ++ ys.told) (xs.seen ++ ys.seen)

-- what both did: the first one's lists before the other's
abbrev pub merged_accounts : Account → Account → Account
merged_accounts a b =
    record {
      tickets = a.tickets ++ b.tickets;
      met = merged_numbers a.met b.met;
      unmet = merged_numbers a.unmet b.unmet;
      places = a.places + b.places;
    }

abbrev pub gathered_account : List PlaceLists → Account
gathered_account [] = new_account 0
gathered_account (p ∷ ps) = merged_accounts p.account (gathered_account ps)
