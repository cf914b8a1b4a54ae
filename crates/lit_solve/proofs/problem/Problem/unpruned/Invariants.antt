use Rattle.lit_solve.proofs.Words.{box_of, byte_read_at, events_on, HasEvent, HasSource, Holds, IsCoherentRead, IsPrunable, ℕ}
use Rattle.lit_solve.proofs.problem.Problem.unpruned.Given as goal

abbrev pub invariant-loop-source : goal.invariant-loop-source
invariant-loop-source l = record {
  rest : (w : ℕ) → HasEvent l.rest w → HasSource (box_of l.self l.frame) l.place w;
  within : (w : ℕ) → HasEvent l.left w → HasSource (box_of l.self l.frame) l.place w;
  prunable : (w : ℕ) → HasSource (box_of l.self l.frame) l.place w → ¬ HasEvent l.rest w → ¬ HasEvent l.left w
      → IsPrunable (box_of l.self l.frame) (byte_read_at (events_on l.self) l.place).0 (byte_read_at (events_on l.self) l.place).1 w;
  coherent : (w : ℕ) → HasEvent l.left w
      → IsCoherentRead (events_on l.self) (Holds l.frame.happens_before.rows) (byte_read_at (events_on l.self) l.place).0
      (byte_read_at (events_on l.self) l.place).1 w;
}

abbrev pub decreases-loop-source : goal.decreases-loop-source
decreases-loop-source l = l.rest.bits
