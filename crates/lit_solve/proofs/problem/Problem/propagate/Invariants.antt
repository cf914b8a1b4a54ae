use Rattle.lit_solve.proofs.Words.{box_of, IsContained, Prunes, size_of, ◌≤◌}
use Rattle.lit_solve.proofs.problem.Problem.propagate.Given as goal

abbrev pub invariant-propagation : goal.invariant-propagation
invariant-propagation l = record {
  contained : IsContained (box_of l.self l.frame) l.frame;
  prunes : Prunes (box_of l.self l.initial.frame) (box_of l.self l.frame);
  size : size_of l.frame.domains ≤ size_of l.initial.frame.domains;
}

abbrev pub decreases-propagation : goal.decreases-propagation
decreases-propagation l = size_of l.frame.domains
