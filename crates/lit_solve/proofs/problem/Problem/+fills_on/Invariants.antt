use Rattle.lit_solve.proofs.Words.{◌-◌, box_with, byte_read_at, byte_reads, CanFillWith, events_on, HasEvent, HasSource, length, ℕ}
use Rattle.lit_solve.proofs.problem.Problem.+fills_on.Given as goal

abbrev pub decreases-fills_on : goal.decreases-fills_on
decreases-fills_on l = length (byte_reads (events_on l.self.now)) - l.place

abbrev pub invariant-loop-source : goal.invariant-loop-source
invariant-loop-source l = record {
  left : (w : ℕ) → HasEvent l.left w → HasSource (box_with l.self l.domains) l.place w;
  in_vain : (w : ℕ) → HasSource (box_with l.self l.domains) l.place w → ¬ HasEvent l.left w
      → ¬ CanFillWith (box_with l.self l.domains) l.read l.place (byte_read_at (events_on l.self) l.place).1 (HasEvent l.taken.whole) l.taken.value
      l.taken.bytes w;
}

abbrev pub decreases-loop-source : goal.decreases-loop-source
decreases-loop-source l = l.left.bits
