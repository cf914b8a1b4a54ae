-- Frames before any propagation, and boxes with a restricted domain.
use Rattle.lit_solve.proofs.Words.{[], ◌+◌, ◌<◌, arith, Box, box_events, byte_read_at, byte_reads, cases_eq, Chain-append, common_steps}
use Rattle.lit_solve.proofs.Words.{EventSet, Execution, Frame, get_or_from_slice_get, Given, GivenIn, Grows-from, HappensBefore}
use Rattle.lit_solve.proofs.Words.{HappensBeforeIn, HasAlone, HasEffect, HasEmptyDomain, HasEvent, HasSource, Holds, inl, inr, IsBox}
use Rattle.lit_solve.proofs.Words.{IsCandidate, IsCoherentRead, IsCompletion, IsContained, IsRestricted, IsExact, IsForbiddenIn, IsForced-grow}
use Rattle.lit_solve.proofs.Words.{IsForcedIn, IsFixpoint, IsFixpointBelow, IsTransitive, length, Prunes, ReadsByteFrom, rows_len, slice_get}
use Rattle.lit_solve.proofs.Words.{Some, subst, TakesFrom, TwoWayRows, ℕ, ◌↔◌, ◌≡◌, ◌⊎◌}
use Rattle.lit_solve.proofs.DomainLemmas.{completion_at, domain_here, frame_at, pruned_at, pruned_is_box, pruned_within, source_other}
use Rattle.lit_solve.proofs.FillLemmas.{before_added, forbidden_added}
use Rattle.lit_solve.proofs.FrameLemmas.{below_or_last}

module _ (box : Box) (order : TwoWayRows) (len : rows_len order.rows ≡ length (box_events box)) (pairs : (e d : ℕ) → Holds order.rows e d ↔ HappensBefore (box_events box) [] e d) where
  no_byte : (r b w : ℕ) → ReadsByteFrom (box_events box) [] r b w → GivenIn box r b w
  no_byte r b w read = absurd (let none = read.2 in cc)

  before_in : (e d : ℕ) → Holds order.rows e d → HappensBeforeIn box e d
  before_in e d h = (Grows-from (box_events box) (ReadsByteFrom (box_events box) []) (GivenIn box) no_byte).happens_before e d ((pairs e d).0 h)

  through : IsTransitive (Holds order.rows)
  through x y z p q = grind (arith, Chain-append)

  -- happens-before where no byte read has a source is contained in what follows from any box
  pub unsourced_contained : IsBox box → ¬ HasEmptyDomain box → IsContained box (record { happens_before = order; forced = order; domains = box.domains })
  unsourced_contained is_box some = record {
    is_box = is_box;
    some = some;
    before_len = len;
    forced_len = len;
    before_closed = through;
    forced_closed = through;
    unsourced = λ a d h. (pairs a d).1 h;
    both = λ a d h. h;
    before_in = before_in;
    forced_in = λ a d h. Given (before_in a d h);
  }

-- ---- a domain restricted to a set
module _ (box : Box) (place : ℕ) (set left : EventSet) (room : place < length box.domains) (left_is : (w : ℕ) → HasEvent left w ↔ (HasSource box place w × HasEvent set w)) where
  pub left_within : (w : ℕ) → HasEvent left w → HasSource box place w
  left_within w there = ((left_is w).0 there).0

  pub source_taken : (x : Execution) → IsCompletion box x → TakesFrom x place set → (w : ℕ) → slice_get x.sources place ≡ Some w → HasEvent left w
  source_taken x is takes w source = (left_is w).1 (is.within place w source, takes w source)

  pub completion_taken : (x : Execution) → IsCompletion box x → TakesFrom x place set → IsCompletion (pruned_at box place left) x
  completion_taken x is takes = completion_at box place left room x is (source_taken x is takes)

  -- pruned further it is the restricted box
  pub restricted_on : (now : Box) → Prunes (pruned_at box place left) now → IsRestricted box place set now
  restricted_on now on = grind (arith, common_steps, completion_taken, domain_here, left_within, pruned_within)

-- ---- a restricted domain that gives no source with an effect: a fixpoint stays one
module _ (box : Box) (frame : Frame) (exact : IsExact box frame) (place : ℕ) (left : EventSet) (room : place < length box.domains)
    (within : (w : ℕ) → HasEvent left w → HasSource box place w) (is : IsContained (pruned_at box place left) (frame_at frame place left))
    (idle : (r b w : ℕ) → slice_get (byte_reads (box_events box)) place ≡ Some (r, b) → HasAlone (pruned_at box place left) place w → ¬ HasEffect (box_events box) w r) where
  abbrev now : Box
  now = pruned_at box place left

  given_or_idle : (r b w : ℕ) → GivenIn now r b w → GivenIn box r b w ⊎ ¬ HasEffect (box_events box) w r
  given_or_idle r b w g = elim (cases_eq g.place place) [
    | inl here ↦
        inr (idle r b w (subst (λ (k : ℕ). slice_get (byte_reads (box_events box)) k ≡ Some (r, b)) here g.is_read) (subst (λ (k : ℕ). HasAlone now k w) here g.alone))
    | inr other ↦ inl record {
      place = g.place;
      is_read = g.is_read;
      alone = record {
        there = (pruned_within box place left room within).domains g.place w g.alone.there;
        alone = λ v there. g.alone.alone v (source_other box place left room g.place v other there);
      };
    }
  ]

  candidate : (r b w : ℕ) → GivenIn now r b w → IsCandidate (box_events box) r b w
  candidate r b w g = (pruned_is_box box place left room within exact.contained.is_box).candidates g.place r b w g.is_read g.alone.there

  before_back : (a d : ℕ) → HappensBeforeIn now a d → HappensBeforeIn box a d
  before_back = before_added box (GivenIn now) candidate given_or_idle

  forced_back : (a d : ℕ) → IsForcedIn now a d → IsForcedIn box a d
  forced_back =
      IsForced-grow (HappensBeforeIn now) (HappensBeforeIn box) (IsForbiddenIn now) (IsForbiddenIn box) (λ a d h. Given (before_back a d h))
      (forbidden_added box (GivenIn now) candidate given_or_idle)

  exact_still : IsExact now (frame_at frame place left)
  exact_still = record {
    contained = is;
    before = λ a d h. exact.before a d (before_back a d h);
    forced = λ a d h. exact.forced a d (forced_back a d h);
  }

  pub fixpoint_still : IsFixpoint box frame → IsFixpoint now (frame_at frame place left)
  fixpoint_still was = record {
    exact = exact_still;
    acyclic = λ e h. was.acyclic e (forced_back e e h);
    coherent = λ k r b w at there. was.coherent k r b w at ((pruned_within box place left room within).domains k w there);
  }

  pub fixpoint_below_still : (n : ℕ) → IsFixpointBelow box frame n → IsFixpointBelow now (frame_at frame place left) n
  fixpoint_below_still n was = record {
    exact = exact_still;
    acyclic = λ e h. was.acyclic e (forced_back e e h);
    coherent = λ k r b w below at there. was.coherent k r b w below at ((pruned_within box place left room within).domains k w there);
  }

-- at the fixpoint at one place more, where each source is coherent
pub fixpoint_more : (box : Box) (frame : Frame) (place : ℕ) → IsFixpointBelow box frame place
    → ((w : ℕ) → HasSource box place w → IsCoherentRead (box_events box) (Holds frame.happens_before.rows)
    (byte_read_at (box_events box) place).0 (byte_read_at (box_events box) place).1 w)
    → IsFixpointBelow box frame (place + 1)
fixpoint_more box frame place was here = record {
  exact = was.exact;
  acyclic = was.acyclic;
  coherent = λ k r b w below at there. elim (below_or_last k place below) [
    | inl less ↦ was.coherent k r b w less at there
    | inr is ↦
        let reads = byte_reads (box_events box) in
        let read = get_or_from_slice_get reads place (r, b) (0, 0) (subst (λ (j : ℕ). slice_get reads j ≡ Some (r, b)) is at) in
        subst (λ (p : ℕ × ℕ). IsCoherentRead (box_events box) (Holds frame.happens_before.rows) p.0 p.1 w) read
        (here w (subst (λ (j : ℕ). HasSource box j w) is there))
  ];
}
