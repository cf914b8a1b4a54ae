use Rattle.std.proofs.Common.{◌+◌, ◌^◌, ◌<◌, ◌≤◌, ltb, sym, ap, ◌∙◌, subst, arith}
use Rattle.std.specs.Prelude.{All, Any}
use Rattle.std.proofs.lemmas.List.Elements.{All-filter}
use Rattle.std.proofs.lemmas.Bool.Decides.{when_false}
use Rattle.lit_desk.specs.declared.rule.Terms.{Terms}
use Rattle.lit_desk.specs.Desk.{DeskName, PlaceLists, draws_of}
use Rattle.lit_desk.proofs.Moves.{draws_as}
use Rattle.lit_desk.proofs.Places.{no_late, draws_after_late, late_joins}
use Rattle.lit_desk.proofs.desk.Desk.draw.Goals as goal

pub fetch_add-number-requires : goal.fetch_add-number-requires
fetch_add-number-requires c =
    let same = ap (λ (p : PlaceLists). p.desk) c.place.view_is ∙ c.requires ∙ sym c.self.view_is in
    let pieces = c.place.inside.terms.pieces in
    let early = when_false (Any (λ n. pieces ≤ n) c.place.inside.seat.me.0.tickets) (All (λ n. n < pieces) c.place.inside.seat.me.0.tickets) c.if-place.false c.place.invariant.done in
    let key_pieces = ap (λ (t : Terms). t.pieces) c.self.invariant.key in
    let key_seats = ap (λ (t : Terms). t.seats) c.self.invariant.key in
    let small : c.self.inside.table.shared.key.pieces + c.self.inside.table.shared.key.seats + 1 < 2 ^ 64 = omega arith in
    let stands : 0 < c.place.inside.seat.me.0.places = omega arith in (
      ap (λ (d : DeskName). d.table) same,
      omega arith,
      draws_as c.self.inside.table.shared.key c.self.inside.table.shared.table_id.slots c.place.inside.seat.id c.place.inside.seat.me c.place.invariant.slots small
          (no_late c.self.inside.table.shared.key.pieces pieces c.place.inside.seat.me.0 (ap (λ (d : DeskName). d.pieces) same ∙ sym key_pieces) early) stands,
    )

pub invariant_of-place-else-number-self : goal.invariant_of-place-else-number-self
invariant_of-place-else-number-self c =
    let same = ap (λ (p : PlaceLists). p.desk) c.place.view_is ∙ c.requires ∙ sym c.self.view_is in
    let pieces = ap (λ (d : DeskName). d.pieces) same in
    let step = c.fetch_add-number.ensures.2 in record {
      slots = step.1 ∙ c.place.invariant.slots;
      places = ap (λ (a : _). a.places) step.0.0 ∙ c.place.invariant.places;
      done = late_joins c.place.inside.terms.pieces c.place.inside.seat.me.0 c.fetch_add-number.new.seat.me.0 c.fetch_add-number.result step.0.0 (omega arith);
    }

pub returns-then-number-self-clause-above : goal.returns-then-number-self-clause-above
returns-then-number-self-clause-above c =
    let n = c.fetch_add-number.result in
    subst (λ (p : PlaceLists). All (λ m. m < n) (draws_of p)) c.place.view_is (All-filter (λ m. ltb m c.place.inside.terms.pieces) (λ m. m < n) c.place.inside.seat.me.0.tickets c.fetch_add-number.ensures.2.0.1)

pub returns-else-number-self-clause-done : goal.returns-else-number-self-clause-done
returns-else-number-self-clause-done c =
    let same = ap (λ (p : PlaceLists). p.desk) c.place.view_is ∙ c.requires ∙ sym c.self.view_is in
    let pieces = ap (λ (d : DeskName). d.pieces) same in
    let step = c.fetch_add-number.ensures.2 in
    let late : c.place.inside.terms.pieces ≤ c.fetch_add-number.result = omega arith in (
      late_joins c.place.inside.terms.pieces c.place.inside.seat.me.0 c.fetch_add-number.new.seat.me.0 c.fetch_add-number.result step.0.0 late,
      draws_after_late c.place.inside.terms.pieces c.place.inside.seat.me.0 c.fetch_add-number.new.seat.me.0 c.fetch_add-number.result step.0.0 late ∙ ap draws_of c.place.view_is,
    )
