use Rattle.lit_solve.proofs.Words.{◌<◌, box_of, byte_read_at, events_on, HasEvent, IsOrderedIn, IsOrderOfBox, length, ℕ}
use Rattle.lit_solve.proofs.problem.Problem.put_ordered.Given as goal

abbrev pub invariant-loop-event : goal.invariant-loop-event
invariant-loop-event l = record {
  sound : IsOrderOfBox (box_of l.self l.frame) l.ordered.rows;
  known : (e : ℕ) → HasEvent l.left e → e < length (events_on l.self);
  left : (e : ℕ) → HasEvent l.left e → IsOrderedIn (box_of l.self l.frame) e (byte_read_at (events_on l.self) l.place).0;
}

abbrev pub decreases-loop-event : goal.decreases-loop-event
decreases-loop-event l = l.left.bits
