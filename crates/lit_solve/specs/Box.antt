-- Boxes: the subproblems of a finite-domain solver (this project's own). A box is a combination of paths with a set of candidates,
-- the domain, for each byte read. The byte reads are the variables.
use Rattle.std.specs.Prelude.{◌≡◌, ℕ, ◌<◌, List, length, Some, slice_get, slice_index_or}
use Rattle.lit_syntax.specs.Syntax.{IsLitmus, Litmus}
use Rattle.lit_paths.specs.declared.event.Event.{Event}
use Rattle.lit_paths.specs.ByteReads.{byte_reads}
use Rattle.lit_paths.specs.Members.{IsCandidate}
use Rattle.lit_paths.specs.Choice.{combinations_of}
use Rattle.lit_paths.specs.Plan.{events_in}
use Rattle.lit_rel.specs.declared.event_set.EventSet.{EventSet}
use Rattle.lit_rel.specs.EventSet.{HasEvent, no_events}

-- the test, the combination's number, and the domain of each byte read, in the order of `byte_reads`; entries behind these mean
-- nothing
pub record Box : Type 0 where
  pub test : Litmus
  pub combination : ℕ
  pub domains : List EventSet

-- all events of its combination
abbrev pub box_events : Box → List Event
box_events box = events_in box.test box.combination

-- all events of a combination, which is a test and a number
abbrev pub events_on : Litmus × ℕ → List Event
events_on c = events_in c.0 c.1

-- the box of a combination with these domains
abbrev pub box_with : Litmus × ℕ → List EventSet → Box
box_with c domains = record { test = c.0; combination = c.1; domains = domains }

-- event w is in the domain of the k-th byte read
abbrev pub HasSource : Box → ℕ → ℕ → Type 0
HasSource box k w = HasEvent (slice_index_or box.domains k no_events) w

-- a combination of a test that a text can say, and for each byte read a set of its candidates
pub record IsBox (box : Box) : Type 0 where
  pub litmus : IsLitmus box.test
  pub known : box.combination < length (combinations_of box.test)
  pub candidates : (k r b w : ℕ) → slice_get (byte_reads (box_events box)) k ≡ Some (r, b) → HasSource box k w
      → IsCandidate (box_events box) r b w

-- each source is in the domain of its byte read
abbrev pub LiesIn : Box → List ℕ → Type 0
LiesIn box sources = (k w : ℕ) → slice_get sources k ≡ Some w → HasSource box k w

-- a box of the same combination, each domain of which is within that of the other
pub record IsWithin (inner outer : Box) : Type 0 where
  pub test : inner.test ≡ outer.test
  pub combination : inner.combination ≡ outer.combination
  pub domains : (k w : ℕ) → HasSource inner k w → HasSource outer k w

-- no event is in the domain of some byte read
abbrev pub HasEmptyDomain : Box → Type 0
HasEmptyDomain box = (k : ℕ) × (k < length (byte_reads (box_events box))) × ((w : ℕ) → ¬ HasSource box k w)
