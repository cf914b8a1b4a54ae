use Rattle.lit_solve.proofs.Words.{box_of, IsOrderOfBox}
use Rattle.lit_solve.proofs.problem.Problem.put_all_ordered.Given as goal

abbrev pub invariant-loop-pass : goal.invariant-loop-pass
invariant-loop-pass l = IsOrderOfBox (box_of l.self l.frame) l.ordered.rows
