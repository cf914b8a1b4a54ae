use Rattle.lit_solve.proofs.Words.{box_events}
use Rattle.lit_solve.proofs.CompletionLemmas.{forced_respected, order_here}
use Rattle.lit_solve.proofs.laws.completions_respect_what_is_forced.Goals as goal

pub returns : goal.returns
returns c box x order is_box is o = forced_respected box x is (c.byte_reads_are_of_events.ensures (box_events box)) order (order_here box x is order o)
