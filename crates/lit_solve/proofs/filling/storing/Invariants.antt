use Rattle.lit_solve.proofs.Words.{event_at, HasEvent, payload_at, ℕ, ◌↔◌, ◌≡◌}
use Rattle.lit_solve.proofs.filling.storing.Given as goal

abbrev pub invariant-loop-event : goal.invariant-loop-event
invariant-loop-event l = record {
  left : (v : ℕ) → HasEvent l.left v → HasEvent l.fn.among v;
  matching : (v : ℕ) → HasEvent l.matching v ↔ (HasEvent l.fn.among v × (payload_at (event_at l.events v) l.byte ≡ l.stored) × ¬ HasEvent l.left v);
}

abbrev pub decreases-loop-event : goal.decreases-loop-event
decreases-loop-event l = l.left.bits
