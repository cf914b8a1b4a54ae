use Rattle.std.proofs.Common.{◌<◌, sym, ap, ◌∙◌, arith}
use Rattle.lit_desk.specs.Desk.{DeskName, PlaceLists}
use Rattle.lit_desk.specs.Internal.Words.{class_of}
use Rattle.lit_desk.proofs.Moves.{looks_as}
use Rattle.lit_desk.proofs.Places.{sees_same, taken_after, word_is_small}
use Rattle.lit_desk.proofs.desk.Desk.look.Goals as goal

pub load-word-requires : goal.load-word-requires
load-word-requires c =
    let same = ap (λ (p : PlaceLists). p.desk) c.place.view_is ∙ c.requires ∙ sym c.self.view_is in
    let small = word_is_small _ _ c.word_of_class.ensures in
    let stands : 0 < c.place.inside.seat.me.0.places = omega arith in (
      ap (λ (d : DeskName). d.table) same,
      omega arith,
      looks_as c.self.inside.table.shared.key c.self.inside.table.shared.table_id.slots c.place.inside.seat.id c.place.inside.seat.me _ _ c.word_of_class.ensures c.place.invariant.slots stands,
    )

pub invariant_of-place : goal.invariant_of-place
invariant_of-place c =
    let step = c.load-word.ensures.2 in
    taken_after c.place.inside.seat.me c.load-word.new.seat.me c.place.inside.terms.pieces c.place.inside.is_done (sees_same (class_of c.word_of_class.result) c.place.inside.seat.me.0 c.load-word.new.seat.me.0 c.load-word.result step.0) step.1 c.place.invariant
