use Rattle.lit_solve.proofs.Words.{split_less}
use Rattle.lit_solve.proofs.branching.count.Goals as goal

pub loop-first-smaller : goal.loop-first-smaller
loop-first-smaller c = split_less c.loop-first.left c.in-Some._first c.in-Some.others c.in-Some.ensures
