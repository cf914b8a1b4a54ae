use Rattle.lit_solve.proofs.Words.{AreApart, box_of, byte_read_at, events_on, HasEvent, HasSource, Holds, MayHave, ℕ}
use Rattle.lit_solve.proofs.problem.Problem.races_at.Given as goal

abbrev pub invariant-loop-source : goal.invariant-loop-source
invariant-loop-source l = record {
  left : (w : ℕ) → HasEvent l.left w → HasSource (box_of l.self l.frame) l.place w;
  in_vain : (w : ℕ) → HasSource (box_of l.self l.frame) l.place w → ¬ HasEvent l.left w
      → ¬ (MayHave (box_of l.self l.frame) l.filling l.place w
      × AreApart (events_on l.self) (Holds l.before) (byte_read_at (events_on l.self) l.place).0 w);
}

abbrev pub decreases-loop-source : goal.decreases-loop-source
decreases-loop-source l = l.left.bits
