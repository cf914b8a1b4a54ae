-- A desk gives the numbers below its count of pieces out to its places, and carries the least number told in each class.
use Rattle.std.specs.Prelude.{◌≡◌, ◌<◌, ◌≤◌, ℕ, List, [], ◌∷◌, ◌++◌, Option, Some, None, All, Any, Contains, filter, nat_lt}
use Rattle.std.specs.List.{flat_map}
use Rattle.atomic_table.specs.Seated.{TableId}
use Rattle.lit_desk.specs.declared.account.Account.{Account}
use Rattle.lit_desk.specs.declared.class.Class2.{Class2}
use Rattle.lit_desk.specs.Accounts.{new_account, numbers_in, took, told, saw}

-- which desk it is, since no other has its table, how many pieces it gives out, and to how many places
pub record DeskName : Type 0 where
  pub table : TableId
  pub pieces : ℕ
  pub seats : ℕ

abbrev pub desk_name : TableId → ℕ → ℕ → DeskName
desk_name table pieces seats = record { table = table; pieces = pieces; seats = seats }

-- a place: its desk, and what it did there
pub record PlaceLists : Type 0 where
  pub desk : DeskName
  pub account : Account

-- it is a place of this desk
abbrev pub IsPlaceOf : DeskName → PlaceLists → Type 0
IsPlaceOf desk place = place.desk ≡ desk

-- a place of this desk where nothing was done yet
abbrev pub new_place : DeskName → PlaceLists
new_place desk = record { desk = desk; account = new_account 1 }

-- the numbers that a place drew: its tickets below the count of pieces
abbrev pub draws_of : PlaceLists → List ℕ
draws_of place = filter (λ n. nat_lt n place.desk.pieces) place.account.tickets

-- the place took a ticket that is no piece, so it draws no more
abbrev pub IsDone : PlaceLists → Type 0
IsDone place = Any (λ n. place.desk.pieces ≤ n) place.account.tickets

-- the numbers that a place told in a class, and those that it saw there
abbrev pub told_by : Class2 → PlaceLists → List ℕ
told_by class place = (numbers_in class place.account).told

abbrev pub seen_by : Class2 → PlaceLists → List ℕ
seen_by class place = (numbers_in class place.account).seen

-- the place once it took a ticket, told a number, or saw one; the rest stays as it was
abbrev pub with_ticket : PlaceLists → ℕ → PlaceLists
with_ticket place n = record { desk = place.desk; account = took place.account n }

abbrev pub with_told : Class2 → PlaceLists → ℕ → PlaceLists
with_told class place n = record { desk = place.desk; account = told class place.account n }

abbrev pub with_seen : Class2 → PlaceLists → ℕ → PlaceLists
with_seen class place n = record { desk = place.desk; account = saw class place.account n }

-- what all places drew, told in a class, and saw there
abbrev pub all_draws : List PlaceLists → List ℕ
all_draws places = flat_map draws_of places

abbrev pub all_told : Class2 → List PlaceLists → List ℕ
all_told class places = flat_map (told_by class) places

abbrev pub all_seen : Class2 → List PlaceLists → List ℕ
all_seen class places = flat_map (seen_by class) places

-- the least of the numbers, or none where there are none
abbrev pub IsLeastOf : List ℕ → Option ℕ → Type 0
IsLeastOf numbers None = numbers ≡ []
IsLeastOf numbers (Some least) = Contains numbers least × All (λ n. least ≤ n) numbers
