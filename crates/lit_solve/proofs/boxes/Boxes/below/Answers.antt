use Rattle.lit_solve.proofs.Words.{ap, arith, boxes_events, BoxesModel, byte_reads, length}
use Rattle.lit_solve.proofs.SoundRangeLemmas.{high_fits}
use Rattle.lit_solve.proofs.boxes.Boxes.below.Goals as goal

pub below-requires : goal.below-requires
below-requires c =
    high_fits _ c.self.invariant c.args.place (omega (arith, c.requires.place, ap (λ (b : BoxesModel). length (byte_reads (boxes_events b))) c.self.view_is))
