-- A place as the contracts see it.
use Rattle.std.specs.Prelude.{◌≡◌, ◌<◌, ◌≤◌, ℕ, Bool, [], All, Any, MatchBool}
use Rattle.atomic_table.specs.Table.{Me}
use Rattle.lit_desk.specs.declared.account.Account.{Account}
use Rattle.lit_desk.specs.declared.place.Place.TheInside.{Inside}
use Rattle.lit_desk.specs.Desk.{PlaceLists, desk_name}

abbrev pub place_of : Inside → PlaceLists
place_of p = record { desk = desk_name p.seat.table_id p.terms.pieces p.terms.seats; account = p.seat.me.0 }

-- a seat stands for one place and holds no slot, and the place is done where it took a ticket that is no piece
pub record IsTaken (me : Me (Unit {0}) Account) (pieces : ℕ) (is_done : Bool) : Type 0 where
  pub slots : me.1 ≡ []
  pub places : me.0.places ≡ 1
  pub done : MatchBool is_done (Any (λ n. pieces ≤ n) me.0.tickets) (All (λ n. n < pieces) me.0.tickets)

abbrev pub IsSound : Inside → Type 0
IsSound p = IsTaken p.seat.me p.terms.pieces p.is_done
