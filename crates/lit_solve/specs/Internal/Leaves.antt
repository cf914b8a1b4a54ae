-- Possible data races of a byte read and a source in its domain.
use Rattle.std.specs.Prelude.{◌≡◌, ℕ, Bool, List, Some, false, length, slice_get, true}
use Rattle.lit_paths.specs.ByteReads.{byte_read_at}
use Rattle.lit_rel.specs.DataRace.{HasDataRaceOf}
use Rattle.lit_rel.specs.Racing.{AreApart}
use Rattle.lit_rel.specs.declared.rows.Rows.{Rows}
use Rattle.lit_rel.specs.Rows.{Holds, rows_len}
use Rattle.lit_solve.specs.Box.{Box, HasSource, box_events}
use Rattle.lit_solve.specs.DataRace.{CanFillFrom, HasSourceOf, IsOrderedIn}
use Rattle.lit_solve.specs.Fill.{AreSourcesIn, IsFilled}

-- the read at the k-th byte read can be filled with w as the source there
pub record CanFillAt (box : Box) (k w : ℕ) : Type 0 where
  pub sources : List ℕ
  pub lie : AreSourcesIn box sources
  pub takes : slice_get sources k ≡ Some w
  pub filled : IsFilled box (byte_read_at (box_events box) k).0 sources

-- the read at the k-th byte read is in a data race with a source that it may have there
pub record RacesAt (box : Box) (before may : ℕ → ℕ → Type 0) (k : ℕ) : Type 0 where
  pub source : ℕ
  pub may_have : may k source
  pub apart : AreApart (box_events box) before (byte_read_at (box_events box) k).0 source

-- the sources that the read at a byte read may have: those in the domain there, or of these those with which the read can be filled
abbrev pub MayHave : Box → Bool → ℕ → ℕ → Type 0
MayHave box true = CanFillAt box
MayHave box false = HasSource box

-- a possible data race, by a relation that orders events and by the sources that reads may have
abbrev pub RacesIn : Box → (ℕ → ℕ → Type 0) → Bool → Type 0
RacesIn box before true = HasDataRaceOf (box_events box) before (CanFillFrom box)
RacesIn box before false = HasDataRaceOf (box_events box) before (HasSourceOf box)

-- any sources that lie in the box order each pair of the relation, which is on the box's events
pub record IsOrderOfBox (box : Box) (rows : Rows) : Type 0 where
  pub len : rows_len rows ≡ length (box_events box)
  pub ordered : (e d : ℕ) → Holds rows e d → IsOrderedIn box e d
