-- What each source in the domain of a byte read orders, any sources that lie in the box order.
use Rattle.lit_solve.proofs.Words.{[], arith, Box, box_events, byte_reads, CanSynchronize, Chain-append, event_at, get_or}
use Rattle.lit_solve.proofs.Words.{HappensBefore, HasSource, Holds, inl, inr, IsOrderedIn, IsOrderOfBox, IsTransitive, length, List, Rows}
use Rattle.lit_solve.proofs.Words.{rows_len, slice_get, slice_get-get_or, slice_get_within, Some, subst, sym, WithPair, WithPair-within}
use Rattle.lit_solve.proofs.Words.{◌<◌, ℕ, ◌↔◌, ◌∙◌, ◌≡◌, ◌⊎◌}
use Rattle.lit_solve.proofs.Words.{false, Frame, HasDataRaceOf-wider, HasSourceOf, IsContained, MayRaceIn, RacesIn}
use Rattle.lit_solve.proofs.FillLemmas.{grows_in}

happens_through : (box : Box) (sources : List ℕ) → IsTransitive (HappensBefore (box_events box) sources)
happens_through box sources x y z p q = grind (arith, Chain-append)

-- an event that each source is, or comes after, is before the read
pub ordered_before : (box : Box) (k r b : ℕ) → slice_get (byte_reads (box_events box)) k ≡ Some (r, b) → (rows : Rows) → IsOrderOfBox box rows
    → (e : ℕ)
    → ((w : ℕ) → HasSource box k w → CanSynchronize (event_at (box_events box) w) (event_at (box_events box) r) × (Holds rows e w ⊎ (e ≡ w)))
    → IsOrderedIn box e r
ordered_before box k r b is_read rows sound e each sources lie = by all.1
  where
    inside : k < length sources
    inside = omega (arith, lie.sourced.one_each, slice_get_within (byte_reads (box_events box)) k (r, b) is_read)

    takes : slice_get sources k ≡ Some (get_or sources k 0)
    takes = slice_get-get_or sources k 0 inside

    all : CanSynchronize (event_at (box_events box) (get_or sources k 0)) (event_at (box_events box) r)
        × (Holds rows e (get_or sources k 0) ⊎ (e ≡ get_or sources k 0))
    all = each (get_or sources k 0) (lie.within k (get_or sources k 0) takes)

    last : HappensBefore (box_events box) sources (get_or sources k 0) r
    last = record { middles = []; chain = inr (inl record { reads = (b, (k, is_read, takes)); can = all.0 }) }

    by : Holds rows e (get_or sources k 0) ⊎ (e ≡ get_or sources k 0) → HappensBefore (box_events box) sources e r
    by (inl before) = happens_through box sources e (get_or sources k 0) r (sound.ordered e (get_or sources k 0) before sources lie) last
    by (inr same) = subst (λ (v : ℕ). HappensBefore (box_events box) sources v r) (sym same) last

-- what is given, they order
pub given_ordered : (box : Box) (frame : Frame) → IsContained box frame → (e d : ℕ) → Holds frame.happens_before.rows e d → IsOrderedIn box e d
given_ordered box frame is e d h sources lie = (grows_in box sources lie).happens_before e d (is.before_in e d h)

pub given_sound : (box : Box) (frame : Frame) → IsContained box frame → IsOrderOfBox box frame.happens_before.rows
given_sound box frame is = record { len = is.before_len; ordered = given_ordered box frame is }

-- a possible data race is one by fewer pairs
pub race_by_order : (box : Box) (before : ℕ → ℕ → Type 0) → ((e d : ℕ) → before e d → IsOrderedIn box e d) → MayRaceIn box → RacesIn box before false
race_by_order box before within =
    HasDataRaceOf-wider (box_events box) (IsOrderedIn box) before (HasSourceOf box) (HasSourceOf box) within (λ r w h. h)

-- a pair more that they order
pub ordered_with : (box : Box) (was now : Rows) (a d : ℕ) → IsOrderOfBox box was → IsOrderedIn box a d → rows_len now ≡ rows_len was
    → ((x y : ℕ) → Holds now x y ↔ WithPair (Holds was) a d x y) → IsOrderOfBox box now
ordered_with box was now a d sound pair len pairs = record {
  len = len ∙ sound.len;
  ordered = λ x y h sources lie.
      WithPair-within (Holds was) (HappensBefore (box_events box) sources) a d (happens_through box sources)
      (λ p q held. sound.ordered p q held sources lie) (pair sources lie) x y ((pairs x y).0 h);
}
