-- Leaves: boxes in which no open byte read can force anything, so that each read is filled by itself (this project's own).
use Rattle.std.specs.Prelude.{◌≡◌, ◌≢◌, ◌⊎◌, ℕ, ◌<◌, IsTrue, List, Some, length, slice_get}
use Rattle.lit_paths.specs.declared.event.Event.{Event}
use Rattle.lit_paths.specs.declared.event.Order3.TheVariants.{SeqCst}
use Rattle.lit_paths.specs.ByteReads.{byte_reads}
use Rattle.lit_paths.specs.Members.{AreSources}
use Rattle.lit_paths.specs.Event.{HasSameRange, does_write, event_at}
use Rattle.lit_rel.specs.Broken.{HasFalseGuardOn}
use Rattle.lit_rel.specs.Coherent.{IsCoherentRead}
use Rattle.lit_rel.specs.ReadsFrom.{ReadsByteFrom, value_of}
use Rattle.lit_rel.specs.TearFree.{ReadsWholeBy}
use Rattle.lit_solve.specs.Box.{Box, HasSource, LiesIn, box_events}
use Rattle.lit_solve.specs.Given.{HappensBeforeIn, HasAlone}

-- Some sequentially consistent write v, not r, has r's range while r is sequentially consistent, or w's range while w is and
-- v is not w: only then can it force anything that r reads a byte from w.
pub record HasEffect (events : List Event) (w r : ℕ) : Type 0 where
  pub write : ℕ
  pub writes : IsTrue (does_write (event_at events write).kind)
  pub ordered : (event_at events write).order ≡ SeqCst
  pub not_read : write ≢ r
  pub pattern :
      (((event_at events r).order ≡ SeqCst) × HasSameRange (event_at events write) (event_at events r))
      ⊎ ((write ≢ w) × ((event_at events w).order ≡ SeqCst) × HasSameRange (event_at events w) (event_at events write))

-- no source in the domain of the k-th byte read has an effect on its read
abbrev pub IsIdle : Box → ℕ → Type 0
IsIdle box k = (r b w : ℕ) → slice_get (byte_reads (box_events box)) k ≡ Some (r, b) → HasSource box k w → ¬ HasEffect (box_events box) w r

-- a leaf: the domain of each byte read has one source, or only sources without an effect
abbrev pub IsLeaf : Box → Type 0
IsLeaf box = (k : ℕ) → k < length (byte_reads (box_events box)) → ((w : ℕ) × HasAlone box k w) ⊎ IsIdle box k

-- each source in a domain is coherent for its byte read, by what is given
abbrev pub AreCoherentSources : Box → Type 0
AreCoherentSources box =
    (k r b w : ℕ) → slice_get (byte_reads (box_events box)) k ≡ Some (r, b) → HasSource box k w
    → IsCoherentRead (box_events box) (HappensBeforeIn box) r b w

-- read r is tear free by these sources, and its guards are true of its value
pub record IsFilled (box : Box) (r : ℕ) (sources : List ℕ) : Type 0 where
  pub tear_free : (w v : ℕ) → ReadsWholeBy (box_events box) (ReadsByteFrom (box_events box) sources) r w
      → ReadsWholeBy (box_events box) (ReadsByteFrom (box_events box) sources) r v → v ≡ w
  pub guards : ¬ HasFalseGuardOn box.test box.combination (Some r) (value_of (box_events box) sources r)

-- sources of all byte reads that lie in the box
pub record AreSourcesIn (box : Box) (sources : List ℕ) : Type 0 where
  pub sourced : AreSources (box_events box) sources
  pub within : LiesIn box sources

-- the read can be filled by some sources that lie in the box
abbrev pub CanFill : Box → ℕ → Type 0
CanFill box r = (sources : List ℕ) × AreSourcesIn box sources × IsFilled box r sources
