-- The relations of what is given in a box, as rows.
use Rattle.std.specs.Prelude.{◌≡◌, ◌↔◌, ℕ, Some, length, slice_get}
use Rattle.lit_paths.specs.ByteReads.{byte_reads}
use Rattle.lit_rel.specs.Coherent.{IsCoherentRead}
use Rattle.lit_rel.specs.ReadsFrom.{ReadsFromBy}
use Rattle.lit_rel.specs.Rows.{Holds, rows_len}
use Rattle.lit_rel.specs.SynchronizesWith.{SynchronizesBy}
use Rattle.lit_solve.specs.Box.{Box, box_events}
use Rattle.lit_solve.specs.Given.{GivenIn, HappensBeforeIn, HasAlone}
use Rattle.lit_why.specs.declared.cases.given.Relations.{Relations}

-- the k-th byte read is of read r, and has w as its only source
pub record IsGivenAt (box : Box) (k r w : ℕ) : Type 0 where
  pub byte : ℕ
  pub is_read : slice_get (byte_reads (box_events box)) k ≡ Some (r, byte)
  pub alone : HasAlone box k w

-- where the k-th byte read is given, its source is coherent by happens-before of what is given
abbrev pub IsCoherentAt : Box → ℕ → Type 0
IsCoherentAt box k =
    (r b w : ℕ) → slice_get (byte_reads (box_events box)) k ≡ Some (r, b) → HasAlone box k w
    → IsCoherentRead (box_events box) (HappensBeforeIn box) r b w

-- these are the relations of what is given
pub record AreRelationsOf (box : Box) (relations : Relations) : Type 0 where
  pub reads_len : rows_len relations.reads ≡ length (box_events box)
  pub synchronizes_len : rows_len relations.synchronizes ≡ length (box_events box)
  pub before_len : rows_len relations.before.rows ≡ length (box_events box)
  pub reads : (r w : ℕ) → Holds relations.reads r w ↔ ReadsFromBy (GivenIn box) r w
  pub synchronizes : (w r : ℕ) → Holds relations.synchronizes w r ↔ SynchronizesBy (box_events box) (GivenIn box) w r
  pub before : (e d : ℕ) → Holds relations.before.rows e d ↔ HappensBeforeIn box e d
