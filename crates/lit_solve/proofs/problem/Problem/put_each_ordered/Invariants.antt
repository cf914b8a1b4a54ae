use Rattle.lit_solve.proofs.Words.{box_of, IsOrderOfBox}
use Rattle.lit_solve.proofs.problem.Problem.put_each_ordered.Given as goal

abbrev pub invariant-loop-place : goal.invariant-loop-place
invariant-loop-place l = IsOrderOfBox (box_of l.self l.frame) l.ordered.rows
