use Rattle.std.proofs.Common.{◌≡◌, ◌↔◌, ℕ, length}
use Rattle.lit_rel.specs.Part.{part_events}
use Rattle.lit_rel.specs.Rows.{rows_len, Holds}
use Rattle.lit_rel.specs.SynchronizesWith.{SynchronizesBy}
use Rattle.lit_rel.proofs.GivenLemmas.{GivenFirst}
use Rattle.lit_rel.proofs.part.Part.synchronizes.Given as goal

abbrev pub invariant-loop-byte : goal.invariant-loop-byte
invariant-loop-byte l = record {
  len : rows_len l.rows ≡ length (part_events l.self);
  pairs : (w r : ℕ) → Holds l.rows w r ↔ SynchronizesBy (part_events l.self) (GivenFirst (part_events l.self) l.byte-items l.byte-index) w r;
}
