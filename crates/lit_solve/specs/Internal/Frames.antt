-- Frames: the states of a backtracking search, boxes with the relations that follow from them.
use Rattle.std.specs.Prelude.{◌≡◌, ◌↔◌, ℕ, ◌<◌, ◌≤◌, Bool, IsFalse, List, Option, [], Some, length, slice_get, slice_index_or}
use Rattle.lit_syntax.specs.Syntax.{IsLitmus, Litmus}
use Rattle.lit_paths.specs.declared.event.Event.{Event}
use Rattle.lit_paths.specs.ByteReads.{byte_reads}
use Rattle.lit_paths.specs.Members.{IsCandidate}
use Rattle.lit_paths.specs.Choice.{combinations_of}
use Rattle.lit_paths.specs.declared.limits.TheConstants.{NAME_LIMIT}
use Rattle.lit_paths.specs.Event.{event_at}
use Rattle.lit_paths.specs.Outcome.{names_of}
use Rattle.lit_paths.specs.Plan.{AreEventsIn}
use Rattle.lit_rel.specs.declared.event_set.EventSet.{EventSet}
use Rattle.lit_rel.specs.EventSet.{HasEvent, no_events}
use Rattle.lit_rel.specs.Broken.{HasFalseGuardOn}
use Rattle.lit_rel.specs.Coherent.{IsCoherentRead}
use Rattle.lit_rel.specs.Forbidden.{IsForbiddenBetween}
use Rattle.lit_rel.specs.HappensBefore.{HappensBefore}
use Rattle.lit_rel.specs.declared.rows.Rows.{Rows}
use Rattle.lit_rel.specs.Peers.{ArePeers}
use Rattle.lit_rel.specs.Rows.{Holds, IsTransitive, rows_len}
use Rattle.lit_rel.specs.SynchronizesWith.{CanSynchronize}
use Rattle.lit_solve.specs.declared.frame.Frame.{Frame}
use Rattle.lit_solve.specs.Box.{Box, HasEmptyDomain, HasSource, IsBox, box_events, box_with, events_on}
use Rattle.lit_solve.specs.Given.{HappensBeforeIn, HasAlone, IsForcedIn}

-- the box of a frame
abbrev pub box_of : Litmus × ℕ → Frame → Box
box_of c frame = box_with c frame.domains

-- No domain is empty, and the frame's relations are transitive, contained in those of its box, and contain what holds for any sources.
pub record IsContained (box : Box) (frame : Frame) : Type 0 where
  pub is_box : IsBox box
  pub some : ¬ HasEmptyDomain box
  pub before_len : rows_len frame.happens_before.rows ≡ length (box_events box)
  pub forced_len : rows_len frame.forced.rows ≡ length (box_events box)
  pub before_closed : IsTransitive (Holds frame.happens_before.rows)
  pub forced_closed : IsTransitive (Holds frame.forced.rows)
  pub unsourced : (a d : ℕ) → HappensBefore (box_events box) [] a d → Holds frame.happens_before.rows a d
  pub both : (a d : ℕ) → Holds frame.happens_before.rows a d → Holds frame.forced.rows a d
  pub before_in : (a d : ℕ) → Holds frame.happens_before.rows a d → HappensBeforeIn box a d
  pub forced_in : (a d : ℕ) → Holds frame.forced.rows a d → IsForcedIn box a d

-- The frame's relations are those of its box.
pub record IsExact (box : Box) (frame : Frame) : Type 0 where
  pub contained : IsContained box frame
  pub before : (a d : ℕ) → HappensBeforeIn box a d → Holds frame.happens_before.rows a d
  pub forced : (a d : ℕ) → IsForcedIn box a d → Holds frame.forced.rows a d

-- each source in a domain is coherent for its byte read, by the frame's happens-before
abbrev pub AreCoherentAt : Box → Frame → Type 0
AreCoherentAt box frame =
    (k r b w : ℕ) → slice_get (byte_reads (box_events box)) k ≡ Some (r, b) → HasSource box k w
    → IsCoherentRead (box_events box) (Holds frame.happens_before.rows) r b w

-- all candidates of each byte read of these events
abbrev pub AreCandidates : List Event → List EventSet → Type 0
AreCandidates events domains =
    (k r b w : ℕ) → slice_get (byte_reads events) k ≡ Some (r, b)
    → HasEvent (slice_index_or domains k no_events) w ↔ IsCandidate events r b w

-- what a `Problem` saves of its combination
pub record IsProblem (c : Litmus × ℕ) (candidates : List EventSet) (peers : Rows) (names : List (ℕ × ℕ))
    (guarded : Bool) : Type 0 where
  pub litmus : IsLitmus c.0
  pub known : c.1 < length (combinations_of c.0)
  pub sound : AreEventsIn c.0.bytes (events_on c)
  pub all : AreCandidates (events_on c) candidates
  pub same_range : ArePeers (events_on c) peers
  pub named : names ≡ names_of c.0
  pub few_names : length names ≤ NAME_LIMIT
  pub unguarded : IsFalse guarded → (asked : Option ℕ) (value : ℕ) → ¬ HasFalseGuardOn c.0 c.1 asked value

-- if the k-th byte read has one source, and this synchronizes with the read, the source is before the read
abbrev pub IsSynchronizedAt : Box → (ℕ → ℕ → Type 0) → ℕ → Type 0
IsSynchronizedAt box before k =
    (r b w : ℕ) → slice_get (byte_reads (box_events box)) k ≡ Some (r, b) → HasAlone box k w
    → CanSynchronize (event_at (box_events box) w) (event_at (box_events box) r) → before w r

-- the k-th byte read, of read r, has w as its only source, and v may not stand between the two
pub record IsForbiddenAt (box : Box) (k w r v : ℕ) : Type 0 where
  pub byte : ℕ
  pub is_read : slice_get (byte_reads (box_events box)) k ≡ Some (r, byte)
  pub alone : HasAlone box k w
  pub between : IsForbiddenBetween (box_events box) (HappensBeforeIn box) w r v

-- v is neither after r nor before w, by a relation: a triple (w, r, v) that may still force something
pub record IsUnsettled (before : ℕ → ℕ → Type 0) (w r v : ℕ) : Type 0 where
  pub not_after : ¬ before r v
  pub not_earlier : ¬ before v w
