use Rattle.lit_solve.proofs.Words.{box_of}
use Rattle.lit_solve.proofs.BranchingLemmas.{IsBestBelow}
use Rattle.lit_solve.proofs.problem.Problem.branch.Given as goal

abbrev pub invariant-loop-place : goal.invariant-loop-place
invariant-loop-place l = IsBestBelow (box_of l.self l.frame) l.best l.place
