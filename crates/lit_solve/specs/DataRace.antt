-- Possible data races of a box: they over-approximate the data races of its completions (ECMA-262, 2024, 29.8 and 29.9; the
-- approximation is this project's own).
use Rattle.std.specs.Prelude.{◌≡◌, ℕ, List, Some, slice_get}
use Rattle.lit_paths.specs.ByteReads.{byte_reads}
use Rattle.lit_rel.specs.DataRace.{HasDataRaceOf}
use Rattle.lit_rel.specs.HappensBefore.{HappensBefore}
use Rattle.lit_solve.specs.Box.{Box, HasSource, box_events}
use Rattle.lit_solve.specs.Fill.{AreSourcesIn, IsFilled}
use Rattle.lit_solve.specs.Given.{HappensBeforeIn}

-- w is in the domain of some byte of read r
pub record HasSourceOf (box : Box) (r w : ℕ) : Type 0 where
  pub place : ℕ
  pub byte : ℕ
  pub is_read : slice_get (byte_reads (box_events box)) place ≡ Some (r, byte)
  pub there : HasSource box place w

-- read r can be filled with w as the source of some byte, by sources that lie in the box
pub record CanFillFrom (box : Box) (r w : ℕ) : Type 0 where
  pub place : ℕ
  pub byte : ℕ
  pub is_read : slice_get (byte_reads (box_events box)) place ≡ Some (r, byte)
  pub sources : List ℕ
  pub lie : AreSourcesIn box sources
  pub takes : slice_get sources place ≡ Some w
  pub filled : IsFilled box r sources

-- e happens before d by any sources that lie in the box
abbrev pub IsOrderedIn : Box → ℕ → ℕ → Type 0
IsOrderedIn box e d = (sources : List ℕ) → AreSourcesIn box sources → HappensBefore (box_events box) sources e d

-- a data race of events that some sources in the box don't order, if a read may read from each source in the domains of its bytes
abbrev pub MayRaceIn : Box → Type 0
MayRaceIn box = HasDataRaceOf (box_events box) (IsOrderedIn box) (HasSourceOf box)

-- a data race by happens-before of what is given, if a read may read from each source with which it can be filled
abbrev pub CanRaceIn : Box → Type 0
CanRaceIn box = HasDataRaceOf (box_events box) (HappensBeforeIn box) (CanFillFrom box)
