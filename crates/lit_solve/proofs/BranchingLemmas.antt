-- Variable ordering: the best byte read so far, and byte reads whose sources can force nothing.
use Rattle.lit_solve.proofs.Words.{◌+◌, ◌<◌, arith, Box, box_events, byte_reads, HasAlone, HasEffect, HasSource, IfNone, IfSome, inl, inr}
use Rattle.lit_solve.proofs.Words.{IsIdle, IsLeaf, length, None, Option, same_Some, slice_get, Some, subst, sym, ℕ, ◌≡◌, ◌≤◌, ◌⊎◌}
use Rattle.lit_solve.proofs.FrameLemmas.{below_or_last}

-- where no source of the byte read at a place has an effect on its read
pub idle_at : (box : Box) (k r b : ℕ) → slice_get (byte_reads (box_events box)) k ≡ Some (r, b)
    → ((w : ℕ) → HasSource box k w → ¬ HasEffect (box_events box) w r) → IsIdle box k
idle_at box k r b is_read none q c w is_read_too there effect = grind (arith, same_Some)

-- what is known of the best so far
pub record IsBestBelow (box : Box) (best : Option ℕ) (n : ℕ) : Type 0 where
  pub known : IfSome best (λ k. k < length (byte_reads (box_events box)))
  pub several : IfSome best (λ k. (w : ℕ) → ¬ HasAlone box k w)
  pub leaf : IfNone best ((k : ℕ) → k < n → ((w : ℕ) × HasAlone box k w) ⊎ IsIdle box k)

module _ (box : Box) (best : Option ℕ) (n : ℕ) (is : IsBestBelow box best n) where
  -- one more that has several sources, one of which can force something
  pub best_more : n < length (byte_reads (box_events box)) → ((w : ℕ) → ¬ HasAlone box n w) → (k : ℕ) → (k ≡ n) ⊎ (best ≡ Some k)
      → IsBestBelow box (Some k) (n + 1)
  best_more below several k which = grind arith

  -- one more that can force nothing
  pub best_stays : ((w : ℕ) × HasAlone box n w) ⊎ IsIdle box n → IsBestBelow box best (n + 1)
  best_stays idle_there = record { known = is.known; several = is.several; leaf = by best is.leaf }
    where
      by : (b : Option ℕ) → IfNone b ((k : ℕ) → k < n → ((w : ℕ) × HasAlone box k w) ⊎ IsIdle box k)
          → IfNone b ((k : ℕ) → k < n + 1 → ((w : ℕ) × HasAlone box k w) ⊎ IsIdle box k)
      by (Some k) earlier = tt
      by None earlier = λ k below. at k (below_or_last k n below)
        where
          at : (k : ℕ) → (k < n) ⊎ (k ≡ n) → ((w : ℕ) × HasAlone box k w) ⊎ IsIdle box k
          at k (inl less) = earlier k less
          at k (inr last) = subst (λ (j : ℕ). ((w : ℕ) × HasAlone box j w) ⊎ IsIdle box j) (sym last) idle_there

-- where all are looked at
pub none_is_leaf : (box : Box) (best : Option ℕ) (n : ℕ) → IsBestBelow box best n → length (byte_reads (box_events box)) ≤ n → IfNone best (IsLeaf box)
none_is_leaf box best n is all = by best is.leaf
  where
    by : (b : Option ℕ) → IfNone b ((k : ℕ) → k < n → ((w : ℕ) × HasAlone box k w) ⊎ IsIdle box k) → IfNone b (IsLeaf box)
    by (Some k) earlier = tt
    by None earlier = λ k below. earlier k (omega (arith, below, all))
