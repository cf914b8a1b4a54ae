use Rattle.std.proofs.Common.{sym, ap, ◌∙◌, subst, arith, ◌∷◌, [], ◌++◌}
use Rattle.std.specs.Prelude.{All}
use Rattle.std.proofs.lemmas.List.Elements.{All-contains, Contains-push}
use Rattle.lit_desk.specs.Desk.{DeskName, PlaceLists, IsPlaceOf}
use Rattle.lit_desk.proofs.LeastTold.{All-front}
use Rattle.lit_desk.proofs.Moves.{gathers, sits}
use Rattle.lit_desk.proofs.desk.Desk.gather.Goals as goal

pub join_seat-requires : goal.join_seat-requires
join_seat-requires c =
    let inv = c.loop-place.invariant in
    let place = c.in-Some.place in
    let left = All-front (IsPlaceOf c.args.self.now) c.loop-place.places.items inv.gathered.0 (subst (λ l. All (IsPlaceOf c.args.self.now) l) inv.gathered.1 c.requires) in
    let popped = subst (λ l. All (IsPlaceOf c.args.self.now) l) c.in-Some.ensures.items left in
    let own = All-contains (IsPlaceOf c.args.self.now) (c.pop.new.self.items ++ place ∷ []) place popped (Contains-push c.pop.new.self.items place) in
    let same = ap (λ (p : PlaceLists). p.desk) c.place.view_is ∙ own ∙ sym c.self.view_is in (
      inv.table,
      ap (λ (d : DeskName). d.table) same,
      c.place.invariant.slots,
      omega arith,
      gathers c.self.inside.table.shared.key c.loop-place.all.id c.loop-place.all.me.0 c.place.inside.seat.id c.place.inside.seat.me.0,
    )

pub load_new_seat-requires : goal.load_new_seat-requires
load_new_seat-requires c = (omega arith, sits c.self.inside.table.shared.key c.self.inside.table.shared.table_id.slots 0)
