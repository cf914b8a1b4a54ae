use Rattle.lit_solve.proofs.Words.{AreAloneBelow, box_of, box_with, HasSolutionIn, IsLowest, IsFixpoint, IsTrue}
use Rattle.lit_solve.proofs.problem.Problem.descend.Given as goal

abbrev pub invariant-loop-place : goal.invariant-loop-place
invariant-loop-place l = record {
  fixpoint : IsFixpoint (box_of l.self l.frame) l.frame;
  alone : AreAloneBelow (box_of l.self l.frame) l.place;
  lowest : IsLowest (box_of l.self l.initial.frame) l.goal (box_of l.self l.frame);
  known : IsTrue l.complete → HasSolutionIn (box_of l.self l.frame) l.goal (box_with l.self l.leaf);
}
