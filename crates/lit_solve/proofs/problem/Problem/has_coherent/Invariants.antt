use Rattle.lit_solve.proofs.Words.{box_of, byte_read_at, events_on, HasEvent, HasSource, Holds, IsCoherentRead, ℕ}
use Rattle.lit_solve.proofs.problem.Problem.has_coherent.Given as goal

abbrev pub invariant-loop-source : goal.invariant-loop-source
invariant-loop-source l = record {
  left : (w : ℕ) → HasEvent l.left w → HasSource (box_of l.self l.frame) l.place w;
  gone : (w : ℕ) → HasSource (box_of l.self l.frame) l.place w → ¬ HasEvent l.left w
      → ¬ IsCoherentRead (events_on l.self) (Holds l.before.rows) (byte_read_at (events_on l.self) l.place).0 (byte_read_at (events_on l.self) l.place).1 w;
}

abbrev pub decreases-loop-source : goal.decreases-loop-source
decreases-loop-source l = l.left.bits
