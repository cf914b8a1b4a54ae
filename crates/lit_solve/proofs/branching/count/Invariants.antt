use Rattle.lit_solve.proofs.branching.count.Given as goal

abbrev pub decreases-loop-first : goal.decreases-loop-first
decreases-loop-first l = l.left.bits
