use Rattle.std.proofs.Common.{refl, replicate, ◌≡◌, suc, ◌+◌, ◌-◌, ap, ◌∙◌, arith}
use Rattle.lit_desk.specs.declared.account.Account.{Account}
use Rattle.lit_desk.specs.Accounts.{new_account}
use Rattle.std.proofs.lemmas.List.Elements.{All-same, All-replicate}
use Rattle.lit_desk.specs.Desk.{IsPlaceOf, desk_name, new_place}
use Rattle.lit_desk.proofs.Moves.{gives_place_as}
use Rattle.lit_desk.proofs.Places.{one_more_place}
use Rattle.lit_desk.proofs.desk.Desk.open.Goals as goal

pub split_seat-other-requires : goal.split_seat-other-requires
split_seat-other-requires c =
    let inv = c.loop.invariant in
    let left : c.args.seats + 1 - c.loop.counter ≡ suc (c.args.seats - c.loop.counter) = omega arith in (
      inv.table,
      omega (arith, c.in_ok-table.ensures.0),
      gives_place_as c.in_ok-table.table.shared.key c.loop.seat.id c.loop.seat.me.0 (c.args.seats - c.loop.counter) (inv.account ∙ ap new_account left),
    )

pub loop-preserved : goal.loop-preserved
loop-preserved c =
    let inv = c.loop.invariant in
    let split = c.split_seat-other.ensures in
    let stood = ap (λ (a : Account). a.places) inv.account in
    let left : c.loop.seat.me.0.places - 1 ≡ c.args.seats + 1 - (c.loop.counter + 1) = omega arith in
    let table = split.3 ∙ inv.table in record {
      table = split.0 ∙ inv.table;
      slots = ap (λ (m : _). m.1) split.2 ∙ inv.slots;
      account = ap (λ (m : _). m.0) split.2 ∙ ap new_account left;
      room = omega (arith, c.push_reserved.ensures.capacity, inv.room);
      places = one_more_place c.loop.places.items c.push_reserved.new.self.items (c.loop.counter - 1) (c.loop.counter + 1 - 1) c.new.result (new_place (desk_name c.in_ok-table.table.shared.table_id c.args.pieces c.args.seats)) (omega arith) inv.places
          (c.new.ensures ∙ ap (λ t. new_place (desk_name t c.args.pieces c.args.seats)) table) c.push_reserved.ensures.items;
    }

pub returns-clause-new : goal.returns-clause-new
returns-clause-new c =
    let inv = c.loop.invariant in
    let desk = desk_name c.in_ok-table.table.shared.table_id c.args.pieces c.args.seats in
    one_more_place c.loop.places.items c.push_reserved-2.new.self.items (c.loop.counter - 1) c.args.seats c.new-2.result (new_place desk) (omega arith) inv.places
    (c.new-2.ensures ∙ ap (λ t. new_place (desk_name t c.args.pieces c.args.seats)) inv.table) c.push_reserved-2.ensures.items

pub returns-clause-own : goal.returns-clause-own
returns-clause-own c =
    let desk = desk_name c.in_ok-table.table.shared.table_id c.args.pieces c.args.seats in
    All-same (IsPlaceOf desk) c.push_reserved-2.new.self.items (replicate c.args.seats (new_place desk)) (returns-clause-new c) (All-replicate (IsPlaceOf desk) c.args.seats (new_place desk) refl)
