use Rattle.std.proofs.Common.{ℕ}
use Rattle.lit_rel.specs.Coherent.{Hides}
use Rattle.lit_rel.specs.EventSet.{HasEvent}
use Rattle.lit_rel.specs.Rows.{Holds}
use Rattle.lit_rel.proofs.given.reads.is_coherent_byte.Given as goal

abbrev pub invariant-loop-other : goal.invariant-loop-other
invariant-loop-other l = record {
  within : (v : ℕ) → HasEvent l.left v → Holds l.before.rows l.byte.source v × Holds l.before.rows v l.byte.read;
  hiding : (v : ℕ) → Hides l.events (Holds l.before.rows) l.byte.read l.byte.byte l.byte.source v → HasEvent l.left v;
}

abbrev pub decreases-loop-other : goal.decreases-loop-other
decreases-loop-other l = l.left.bits
