use Rattle.std.proofs.Common.{◌≡◌, ◌↔◌, ℕ, length}
use Rattle.lit_rel.specs.Part.{part_events}
use Rattle.lit_rel.specs.ReadsFrom.{ReadsFromBy}
use Rattle.lit_rel.specs.Rows.{rows_len, Holds}
use Rattle.lit_rel.proofs.GivenLemmas.{GivenFirst}
use Rattle.lit_rel.proofs.part.Part.reads_from.Given as goal

abbrev pub invariant-loop-byte : goal.invariant-loop-byte
invariant-loop-byte l = record {
  len : rows_len l.rows ≡ length (part_events l.self);
  pairs : (r w : ℕ) → Holds l.rows r w ↔ ReadsFromBy (GivenFirst (part_events l.self) l.byte-items l.byte-index) r w;
}
