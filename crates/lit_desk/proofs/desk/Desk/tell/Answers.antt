use Rattle.std.proofs.Common.{◌<◌, sym, ap, ◌∙◌, arith}
use Rattle.lit_desk.specs.Desk.{DeskName, PlaceLists}
use Rattle.lit_desk.specs.Internal.Words.{class_of}
use Rattle.lit_desk.proofs.Moves.{tells_as}
use Rattle.lit_desk.proofs.Places.{told_same, taken_after, word_is_small}
use Rattle.lit_desk.proofs.desk.Desk.tell.Goals as goal

pub fetch_min-requires : goal.fetch_min-requires
fetch_min-requires c =
    let same = ap (λ (p : PlaceLists). p.desk) c.place.view_is ∙ c.requires.place ∙ sym c.self.view_is in
    let small = word_is_small _ _ c.word_of_class.ensures in
    let stands : 0 < c.place.inside.seat.me.0.places = omega arith in (
      ap (λ (d : DeskName). d.table) same,
      omega arith,
      tells_as c.self.inside.table.shared.key c.self.inside.table.shared.table_id.slots c.place.inside.seat.id c.place.inside.seat.me _ _ _ c.word_of_class.ensures c.place.invariant.slots (omega arith) stands,
    )

pub invariant_of-place : goal.invariant_of-place
invariant_of-place c =
    let step = c.fetch_min.ensures.2 in
    taken_after c.place.inside.seat.me c.fetch_min.new.seat.me c.place.inside.terms.pieces c.place.inside.is_done (told_same (class_of c.word_of_class.result) c.place.inside.seat.me.0 c.fetch_min.new.seat.me.0 _ step.0) step.1 c.place.invariant
