-- What a box gives, and what follows from it (this project's own): a byte read whose domain has one source is given that source. The
-- relations are those of the given sources (ECMA-262, 2024, 29.6.6 and 29.7.4), and the pairs that they force.
use Rattle.std.specs.Prelude.{◌≡◌, ℕ, Some, slice_get}
use Rattle.lit_paths.specs.ByteReads.{byte_reads}
use Rattle.lit_rel.specs.Growth.{IsForbiddenBy}
use Rattle.lit_rel.specs.HappensBefore.{HappensBeforeBy}
use Rattle.lit_order.specs.Forcing.{IsForced}
use Rattle.lit_solve.specs.Box.{Box, HasSource, box_events}

-- w alone is in the domain of the k-th byte read
pub record HasAlone (box : Box) (k w : ℕ) : Type 0 where
  pub there : HasSource box k w
  pub alone : (v : ℕ) → HasSource box k v → v ≡ w

-- byte b of read r has w alone in its domain
pub record GivenIn (box : Box) (r b w : ℕ) : Type 0 where
  pub place : ℕ
  pub is_read : slice_get (byte_reads (box_events box)) place ≡ Some (r, b)
  pub alone : HasAlone box place w

-- happens-before of what is given
abbrev pub HappensBeforeIn : Box → ℕ → ℕ → Type 0
HappensBeforeIn box = HappensBeforeBy (box_events box) (GivenIn box)

-- r reads from w by what is given, and v may not stand between them
abbrev pub IsForbiddenIn : Box → ℕ → ℕ → ℕ → Type 0
IsForbiddenIn box = IsForbiddenBy (box_events box) (GivenIn box)

-- what is given forces a before d in each memory-order
abbrev pub IsForcedIn : Box → ℕ → ℕ → Type 0
IsForcedIn box = IsForced (HappensBeforeIn box) (IsForbiddenIn box)
