use Rattle.std.proofs.Common.{◌<◌, ℕ}
use Rattle.std.specs.Prelude.{IsTrue}
use Rattle.lit_why.specs.Attempts.{agree}
use Rattle.lit_rel.specs.EventSet.{HasEvent}
use Rattle.lit_why.proofs.representatives.is_stored_before.Given as goal

abbrev pub invariant-loop-event : goal.invariant-loop-event
invariant-loop-event l = record {
  left : (v : ℕ) → HasEvent l.left v → HasEvent l.fn.among v;
  passed : (v : ℕ) → HasEvent l.fn.among v → ¬ HasEvent l.left v → v < l.source
      → ¬ IsTrue (agree l.asked l.events l.byte v l.source);
}

abbrev pub decreases-loop-event : goal.decreases-loop-event
decreases-loop-event l = l.left.bits
