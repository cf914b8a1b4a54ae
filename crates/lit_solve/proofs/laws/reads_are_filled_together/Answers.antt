use Rattle.lit_solve.proofs.Words.{box_events}
use Rattle.lit_solve.proofs.TogetherLemmas.{filled_together}
use Rattle.lit_solve.proofs.laws.reads_are_filled_together.Goals as goal

pub returns : goal.returns
returns c box fills = filled_together box (c.laws_below.ensures.of_events (box_events box)) fills
