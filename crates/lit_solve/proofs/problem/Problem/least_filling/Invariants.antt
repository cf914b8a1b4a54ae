use Rattle.lit_solve.proofs.Words.{Any, AreAloneBelow, box_with, IsIndependent, IsLowest}
use Rattle.lit_solve.proofs.problem.Problem.least_filling.Given as goal

abbrev pub invariant-loop-place : goal.invariant-loop-place
invariant-loop-place l = record {
  independent : IsIndependent (box_with l.self l.down);
  alone : AreAloneBelow (box_with l.self l.down) l.place;
  lowest : IsLowest (box_with l.self l.domains) Any (box_with l.self l.down);
}
