use Rattle.std.proofs.Common.{◌≡◌, ◌+◌, ◌-◌, ◌≤◌, [], vec_capacity}
use Rattle.std.specs.Prelude.{replicate}
use Rattle.lit_desk.specs.Accounts.{new_account}
use Rattle.lit_desk.specs.Desk.{new_place, desk_name}
use Rattle.lit_desk.proofs.desk.Desk.open.Given as goal

abbrev pub invariant-loop : goal.invariant-loop
invariant-loop l = record {
  table : l.seat.table_id ≡ l.table.shared.table_id;
  slots : l.seat.me.1 ≡ [];
  account : l.seat.me.0 ≡ new_account (l.seats + 1 - l.counter);
  room : l.seats ≤ vec_capacity l.places;
  places : l.places.items ≡ replicate (l.counter - 1) (new_place (desk_name l.table.shared.table_id l.terms.pieces l.terms.seats));
}
