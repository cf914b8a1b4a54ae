-- Boxes in which reads are independent of each other, so that each is filled by itself.
use Rattle.std.specs.Prelude.{◌≡◌, ℕ, ◌<◌, ◌≤◌, List, None, Some, length, slice_get, slice_index_or}
use Rattle.lit_paths.specs.declared.event.Event.{Event}
use Rattle.lit_paths.specs.ByteReads.{byte_reads}
use Rattle.lit_paths.specs.Execution.{Execution}
use Rattle.lit_paths.specs.Members.{AreSources}
use Rattle.lit_rel.specs.Broken.{HasFalseGuardOn}
use Rattle.lit_rel.specs.ReadsFrom.{value_of}
use Rattle.lit_order.specs.MemoryOrder.{HasOrder, IsLeastMemoryOrder}
use Rattle.lit_solve.specs.Box.{Box, HasEmptyDomain, HasSource, IsBox, box_events}
use Rattle.lit_solve.specs.Completion.{IsCompletion}
use Rattle.lit_solve.specs.Fill.{AreCoherentSources, AreSourcesIn, IsFilled, IsLeaf}
use Rattle.lit_solve.specs.Given.{HappensBeforeIn, IsForbiddenIn}

-- sources that lie in the box and fill each read
pub record FillsAll (box : Box) : Type 0 where
  pub sources : List ℕ
  pub lie : AreSourcesIn box sources
  pub each : (r : ℕ) → r < length (box_events box) → IsFilled box r sources

-- No open byte read can force anything, what is given has an order, and each read can be filled. So any sources that lie in the box
-- and fill each read are those of a completion.
pub record IsIndependent (box : Box) : Type 0 where
  pub is_box : IsBox box
  pub some : ¬ HasEmptyDomain box
  pub leaf : IsLeaf box
  pub coherent : AreCoherentSources box
  pub acyclic : (e : ℕ) → ¬ HappensBeforeIn box e e
  pub unwritten : ¬ HasFalseGuardOn box.test box.combination None 0
  pub ordered : HasOrder (length (box_events box)) (HappensBeforeIn box) (IsForbiddenIn box)
  pub filled : FillsAll box

-- the least memory-order of each completion
abbrev pub IsLeastOrderOfEach : Box → List ℕ → Type 0
IsLeastOrderOfEach box order = (x : Execution) → IsCompletion box x → IsLeastMemoryOrder (box_events box) x.sources order

-- ---- the sources of one read
-- sources of all byte reads, of which those of read r lie in the box
pub record LieOn (box : Box) (r : ℕ) (sources : List ℕ) : Type 0 where
  pub sourced : AreSources (box_events box) sources
  pub within : (k b w : ℕ) → slice_get (byte_reads (box_events box)) k ≡ Some (r, b) → slice_get sources k ≡ Some w → HasSource box k w

-- sources of all byte reads, of which those of read r lie in the box and fill it
pub record FillsRead (box : Box) (r : ℕ) (sources : List ℕ) : Type 0 where
  pub lie : LieOn box r sources
  pub filled : IsFilled box r sources

-- where lists differ first in a source of read r, that of `sources` is less
abbrev pub IsNotGreaterOn : List Event → ℕ → (sources others : List ℕ) → Type 0
IsNotGreaterOn events r sources others =
    (k b : ℕ) → slice_get (byte_reads events) k ≡ Some (r, b)
    → ((j d : ℕ) → j < k → slice_get (byte_reads events) j ≡ Some (r, d) → slice_index_or others j 0 ≡ slice_index_or sources j 0)
    → slice_index_or sources k 0 ≤ slice_index_or others k 0

-- the least sources that lie in the box and fill read r with this value
pub record IsLeastFilling (box : Box) (r value : ℕ) (sources : List ℕ) : Type 0 where
  pub fills : FillsRead box r sources
  pub has : value_of (box_events box) sources r ≡ value
  pub least : (others : List ℕ) → FillsRead box r others → value_of (box_events box) others r ≡ value
      → IsNotGreaterOn (box_events box) r sources others
