use Rattle.std.proofs.Common.{◌↔◌, ℕ}
use Rattle.lit_paths.specs.ByteReads.{byte_read_at}
use Rattle.lit_rel.specs.EventSet.{HasEvent}
use Rattle.lit_solve.specs.Box.{events_on}
use Rattle.lit_why.specs.Internal.Trials.{IsRepresentative}
use Rattle.lit_why.proofs.representatives.representatives_at.Given as goal

abbrev pub invariant-loop-source : goal.invariant-loop-source
invariant-loop-source l = record {
  left : (v : ℕ) → HasEvent l.left v → HasEvent l.candidates v;
  first : (v : ℕ) → HasEvent l.first v
      ↔ (HasEvent l.candidates v × IsRepresentative l.combination (byte_read_at (events_on l.combination) l.fn.place) v
      × ¬ HasEvent l.left v);
}

abbrev pub decreases-loop-source : goal.decreases-loop-source
decreases-loop-source l = l.left.bits
