-- Frames at the fixpoint of propagation: it has nothing more to force.
use Rattle.std.specs.Prelude.{◌≡◌, ℕ, ◌<◌, Some, slice_get}
use Rattle.lit_paths.specs.ByteReads.{byte_reads}
use Rattle.lit_paths.specs.Execution.{Execution}
use Rattle.lit_rel.specs.Coherent.{IsCoherentRead}
use Rattle.lit_rel.specs.declared.event_set.EventSet.{EventSet}
use Rattle.lit_rel.specs.EventSet.{HasEvent}
use Rattle.lit_rel.specs.Rows.{Holds}
use Rattle.lit_solve.specs.declared.frame.Frame.{Frame}
use Rattle.lit_solve.specs.Box.{Box, HasSource, IsWithin, box_events}
use Rattle.lit_solve.specs.Completion.{IsCompletion}
use Rattle.lit_solve.specs.Given.{IsForcedIn}
use Rattle.lit_solve.specs.Internal.Frames.{AreCoherentAt, IsExact}

-- The frame's relations are those of its box, what is forced is acyclic, and each source in a domain is coherent for its byte read.
pub record IsFixpoint (box : Box) (frame : Frame) : Type 0 where
  pub exact : IsExact box frame
  pub acyclic : (e : ℕ) → ¬ IsForcedIn box e e
  pub coherent : AreCoherentAt box frame

-- at the fixpoint, but only the byte reads before the n-th are known to be coherent with each source in their domains
pub record IsFixpointBelow (box : Box) (frame : Frame) (n : ℕ) : Type 0 where
  pub exact : IsExact box frame
  pub acyclic : (e : ℕ) → ¬ IsForcedIn box e e
  pub coherent : (k r b w : ℕ) → k < n → slice_get (byte_reads (box_events box)) k ≡ Some (r, b) → HasSource box k w
      → IsCoherentRead (box_events box) (Holds frame.happens_before.rows) r b w

-- the execution has a source of a set for the k-th byte read
abbrev pub TakesFrom : Execution → ℕ → EventSet → Type 0
TakesFrom x k set = (w : ℕ) → slice_get x.sources k ≡ Some w → HasEvent set w

-- the box within another whose completions are those of that with a source of a set for the k-th byte read
pub record IsRestricted (old : Box) (k : ℕ) (set : EventSet) (new : Box) : Type 0 where
  pub within : IsWithin new old
  pub inside : (w : ℕ) → HasSource new k w → HasEvent set w
  pub retained : (x : Execution) → IsCompletion old x → TakesFrom x k set → IsCompletion new x
