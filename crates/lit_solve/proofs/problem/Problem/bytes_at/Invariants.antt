use Rattle.lit_solve.proofs.Words.{box_of, HasEvent, HasSource, ℕ}
use Rattle.lit_solve.proofs.problem.Problem.bytes_at.Given as goal

abbrev pub invariant-loop-source : goal.invariant-loop-source
invariant-loop-source l = (w : ℕ) → HasEvent l.left w → HasSource (box_of l.self l.frame) l.place w

abbrev pub decreases-loop-source : goal.decreases-loop-source
decreases-loop-source l = l.left.bits
