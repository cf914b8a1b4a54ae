use Rattle.lit_solve.proofs.Words.{◌<◌, box_of, IsContained, IsFixpointBelow, IsTrue, Prunes, size_of, ◌≡◌, ◌≤◌}
use Rattle.std.specs.Prelude.{IsFalse}
use Rattle.lit_solve.proofs.problem.Problem.prune.Given as goal

abbrev pub invariant-loop-place : goal.invariant-loop-place
invariant-loop-place l = record {
  before : l.frame.happens_before ≡ l.fn.frame.happens_before;
  contained : IsContained (box_of l.self l.frame) l.frame;
  prunes : Prunes (box_of l.self l.fn.frame) (box_of l.self l.frame);
  fixpoint : IsFalse l.forces → IsFixpointBelow (box_of l.self l.frame) l.frame l.place;
  less : IsTrue l.forces → size_of l.frame.domains < size_of l.fn.frame.domains;
  size : size_of l.frame.domains ≤ size_of l.fn.frame.domains;
}
