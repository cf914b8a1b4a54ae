-- A box with one domain pruned: it retains all completions.
use Rattle.lit_solve.proofs.Words.{◌<◌, AreEventsIn, arith, Box, box_events, byte_read_at, byte_reads, cases_eq, event_or_not, EventSet}
use Rattle.lit_solve.proofs.Words.{Execution, Frame, get_or, get_or-set_other, get_or-set_same, HasEmptyDomain, HasEvent, HasNoCompletion}
use Rattle.lit_solve.proofs.Words.{HasSource, inl, inr, IsBox, IsCompletion, IsContained, IsPrunable, IsWithin, length, no_events, Prunes}
use Rattle.lit_solve.proofs.Words.{refl, size_of, slice_get, slice_get-get_or, slice_index_or, slice_set, Some, subst, sum-map, sum_by-set}
use Rattle.lit_solve.proofs.Words.{sym, within_le, ℕ, ◌≡◌, ◌≢◌}
use Rattle.lit_solve.proofs.BoxLemmas.{before_grows, forced_grows}
use Rattle.lit_solve.proofs.CompletionLemmas.{sourced}
use Rattle.lit_solve.proofs.PruningLemmas.{read_here}

-- the box with this domain for the byte read at a place
abbrev pub pruned_at : Box → ℕ → EventSet → Box
pruned_at box place left = record { test = box.test; combination = box.combination; domains = slice_set box.domains place left }

-- the frame too
abbrev pub frame_at : Frame → ℕ → EventSet → Frame
frame_at frame place left = record { happens_before = frame.happens_before; forced = frame.forced; domains = slice_set frame.domains place left }

-- no completion has a source that can be pruned, as the law says
abbrev pub PrunesSoundly : Box → Type 0
PrunesSoundly box = (x : Execution) (k r b w : ℕ) → IsBox box → AreEventsIn box.test.bytes (box_events box) → IsCompletion box x
    → slice_get (byte_reads (box_events box)) k ≡ Some (r, b) → slice_get x.sources k ≡ Some w → ¬ IsPrunable box r b w

module _ (box : Box) (place : ℕ) (left : EventSet) (room : place < length box.domains) where
  pub domain_here : slice_index_or (slice_set box.domains place left) place no_events ≡ left
  domain_here = get_or-set_same box.domains place left no_events room

  pub domain_other : (k : ℕ) → k ≢ place → slice_index_or (slice_set box.domains place left) k no_events ≡ slice_index_or box.domains k no_events
  domain_other k other = get_or-set_other box.domains place k left no_events other

  -- an event is in a domain of the new box exactly if it is in that of the old one and, at the place, in `left`
  pub source_here : (w : ℕ) → HasEvent left w → HasSource (pruned_at box place left) place w
  source_here w there = subst (λ (set : EventSet). HasEvent set w) (sym domain_here) there

  pub source_other : (k w : ℕ) → k ≢ place → HasSource box k w → HasSource (pruned_at box place left) k w
  source_other k w other there = subst (λ (set : EventSet). HasEvent set w) (sym (domain_other k other)) there

  -- no domain is empty, if `left` is not
  pub none_empty_at : ¬ HasEmptyDomain box → (w : ℕ) × HasEvent left w → ¬ HasEmptyDomain (pruned_at box place left)
  none_empty_at some_each some (k, inside, none) = elim (cases_eq k place) [
    | inl at ↦ none some.0 (subst (λ (j : ℕ). HasSource (pruned_at box place left) j some.0) (sym at) (source_here some.0 some.1))
    | inr other ↦ some_each (k, inside, λ w there. none w (source_other k w other there))
  ]

  module _ (within : (w : ℕ) → HasEvent left w → HasSource box place w) where
    source_before : (k w : ℕ) → HasSource (pruned_at box place left) k w → HasSource box k w
    source_before k w there = grind (arith, cases_eq, domain_here, domain_other)

    pub pruned_within : IsWithin (pruned_at box place left) box
    pruned_within = record { test = refl; combination = refl; domains = source_before }

    pub pruned_is_box : IsBox box → IsBox (pruned_at box place left)
    pruned_is_box is = record { litmus = is.litmus; known = is.known; candidates = λ k r b w at there. is.candidates k r b w at (source_before k w there) }

    -- the measure decreases, if a source was removed
    pub size_less : ¬ ((w : ℕ) → HasSource box place w → HasEvent left w) → size_of (slice_set box.domains place left) < size_of box.domains
    size_less not_all = grind (arith, sum-map, sum_by-set, within_le)

    -- a frame's relations are contained in those of the new box, if `left` is not empty
    module _ (frame : Frame) (is : IsContained box frame) (some : (w : ℕ) × HasEvent left w) where
      none_empty : ¬ HasEmptyDomain (pruned_at box place left)
      none_empty = none_empty_at is.some some

      pub pruned_contained : IsContained (pruned_at box place left) (frame_at frame place left)
      pruned_contained = record {
        is_box = pruned_is_box is.is_box;
        some = none_empty;
        before_len = is.before_len;
        forced_len = is.forced_len;
        before_closed = is.before_closed;
        forced_closed = is.forced_closed;
        unsourced = is.unsourced;
        both = is.both;
        before_in = λ a d h. before_grows (pruned_at box place left) box pruned_within none_empty a d (is.before_in a d h);
        forced_in = λ a d h. forced_grows (pruned_at box place left) box pruned_within none_empty a d (is.forced_in a d h);
      }

  -- a completion whose source at the place is in `left` is one of the new box
  pub completion_at : (x : Execution) → IsCompletion box x → ((w : ℕ) → slice_get x.sources place ≡ Some w → HasEvent left w)
      → IsCompletion (pruned_at box place left) x
  completion_at x is source_left = grind (arith, cases_eq, source_here, source_other)

  -- there is none if `left` is empty
  pub none_at : place < length (byte_reads (box_events box)) → (x : Execution) → IsCompletion box x
      → ((w : ℕ) → slice_get x.sources place ≡ Some w → HasEvent left w) → ((w : ℕ) → ¬ HasEvent left w) → ⊥
  none_at inside x is source_left none =
      let here : place < length x.sources = omega (arith, (sourced box x is).one_each, inside) in
      none (get_or x.sources place 0) (source_left (get_or x.sources place 0) (slice_get-get_or x.sources place 0 here))

  -- the sources of completions are in `left`
  module _ (is_box : IsBox box) (sound : AreEventsIn box.test.bytes (box_events box)) (law : PrunesSoundly box) (inside : place < length (byte_reads (box_events box)))
      (prunable : (w : ℕ) → HasSource box place w → ¬ HasEvent left w
      → IsPrunable box (byte_read_at (box_events box) place).0 (byte_read_at (box_events box) place).1 w) where
    source_left : (x : Execution) → IsCompletion box x → (w : ℕ) → slice_get x.sources place ≡ Some w → HasEvent left w
    source_left x is w source = elim (event_or_not left w) [
      | inl there ↦ there
      | inr lost ↦
          absurd (law x place (byte_read_at (box_events box) place).0 (byte_read_at (box_events box) place).1 w is_box sound is
          (read_here (box_events box) place inside) source (prunable w (is.within place w source) lost))
    ]

    pub none_if_empty : ((w : ℕ) → ¬ HasEvent left w) → HasNoCompletion box
    none_if_empty none x is = none_at inside x is (source_left x is) none

    pub prunes : ((w : ℕ) → HasEvent left w → HasSource box place w) → Prunes box (pruned_at box place left)
    prunes within = record { within = pruned_within within; retained = λ x is. completion_at x is (source_left x is) }

-- pruned, and pruned once more
pub prunes_on : (first was now : Box) → Prunes first was → Prunes was now → Prunes first now
prunes_on first was now to on = grind arith
