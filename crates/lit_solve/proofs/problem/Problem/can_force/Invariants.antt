use Rattle.lit_solve.proofs.Words.{box_of, events_on, HasEffect, HasEvent, HasSource, ℕ}
use Rattle.lit_solve.proofs.problem.Problem.can_force.Given as goal

abbrev pub invariant-loop-source : goal.invariant-loop-source
invariant-loop-source l = record {
  within : (w : ℕ) → HasEvent l.left w → HasSource (box_of l.self l.frame) l.place w;
  idle : (w : ℕ) → HasSource (box_of l.self l.frame) l.place w → ¬ HasEvent l.left w → ¬ HasEffect (events_on l.self) w l.read;
}

abbrev pub decreases-loop-source : goal.decreases-loop-source
decreases-loop-source l = l.left.bits
