use Rattle.lit_solve.proofs.Words.{ap, arith, boxes_events, BoxesModel, byte_reads, length}
use Rattle.lit_solve.proofs.SoundRangeLemmas.{low_fits}
use Rattle.lit_solve.proofs.boxes.Boxes.above.Goals as goal

pub above-requires : goal.above-requires
above-requires c =
    low_fits _ c.self.invariant c.args.place (omega (arith, c.requires.place, ap (λ (b : BoxesModel). length (byte_reads (boxes_events b))) c.self.view_is))
