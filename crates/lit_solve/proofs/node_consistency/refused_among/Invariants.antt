use Rattle.lit_solve.proofs.Words.{byte_read_at, events_on, HasEvent, IsRefusedOn, ℕ, ◌↔◌}
use Rattle.lit_solve.proofs.node_consistency.refused_among.Given as goal

abbrev pub invariant-loop-source : goal.invariant-loop-source
invariant-loop-source l = record {
  left : (v : ℕ) → HasEvent l.left v → HasEvent l.fn.among v;
  refused : (v : ℕ) → HasEvent l.refused v ↔ (HasEvent l.fn.among v
      × IsRefusedOn l.combination (byte_read_at (events_on l.combination) l.fn.place).0 (byte_read_at (events_on l.combination) l.fn.place).1 v
      × ¬ HasEvent l.left v);
}

abbrev pub decreases-loop-source : goal.decreases-loop-source
decreases-loop-source l = l.left.bits
