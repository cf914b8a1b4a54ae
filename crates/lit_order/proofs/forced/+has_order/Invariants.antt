use Rattle.lit_order.proofs.RowsLemmas.{pairs_missing}
use Rattle.lit_order.proofs.forced.+has_order.Given as goal

abbrev pub decreases-has_order : goal.decreases-has_order
decreases-has_order l = pairs_missing l.before.now
