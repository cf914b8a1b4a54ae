-- The least solution: if each domain has one source, these are the sources of each completion.
use Rattle.lit_solve.proofs.Words.{[], ◌++◌, ◌<◌, ◌↔◌, ◌∙◌, ◌∷◌, ◌≡◌, ◌≢◌, AreAloneBelow, arith, Box, box_events, byte_reads, Event}
use Rattle.lit_solve.proofs.Words.{Execution, execution_events, get_or, Goal, HappensBeforeIn, HasSolution, HasSource, IfSome, inl, IsBox}
use Rattle.lit_solve.proofs.Words.{IsCompletion, IsForbiddenIn, IsLeaf, IsLeastMemoryOrder, IsLeastOrderOf, IsLeastOrderOfEach, IsLeastSolution, IsLowest}
use Rattle.lit_solve.proofs.Words.{IsMemoryOrder, IsOrderOf, IsSolution, length, Less, LiesIn, List, MatchOption, nat_cmp, None, Option, Some}
use Rattle.lit_solve.proofs.Words.{place-push, Prunes, same_number_lists, slice_cmp, slice_get-get_or, subst, sym, ℕ}
use Rattle.lit_solve.proofs.BoxLemmas.{same_events}
use Rattle.lit_solve.proofs.CompletionLemmas.{events_same, sourced}
use Rattle.lit_solve.proofs.FillLemmas.{sources_lie}
use Rattle.lit_solve.proofs.LexLemmas.{never_both_less}
use Rattle.lit_solve.proofs.SearchingLemmas.{solution_out}

-- one more source: the only one of the next byte read
pub lies_more : (box : Box) (sources : List ℕ) (w : ℕ) → LiesIn box sources → HasSource box (length sources) w → LiesIn box (sources ++ w ∷ [])
lies_more box sources w lies there k v at = grind (arith, place-push)

-- a completion of a box has the memory-orders of what the box gives
abbrev pub HasOneOrder : Box → Type 0
HasOneOrder box =
    (x : Execution) (order : List ℕ) → IsBox box → IsLeaf box → IsCompletion box x
    → IsMemoryOrder (execution_events box.test x) x.sources order ↔ IsOrderOf (length (box_events box)) (HappensBeforeIn box) (IsForbiddenIn box) order

module _ (box : Box) (is_box : IsBox box) (leaf : IsLeaf box) (law : HasOneOrder box) (x : Execution) (is : IsCompletion box x) where
  one_order : (order : List ℕ)
      → IsMemoryOrder (box_events box) x.sources order ↔ IsOrderOf (length (box_events box)) (HappensBeforeIn box) (IsForbiddenIn box) order
  one_order order =
      subst (λ (es : List Event). IsMemoryOrder es x.sources order
      ↔ IsOrderOf (length (box_events box)) (HappensBeforeIn box) (IsForbiddenIn box) order) (events_same box x is) (law x order is_box leaf is)

  pub leaf_ordered : (order : List ℕ) → IsLeastOrderOf (length (box_events box)) (HappensBeforeIn box) (IsForbiddenIn box) order
      → IsLeastMemoryOrder (box_events box) x.sources order
  leaf_ordered order o = grind (arith, one_order)

-- so the least order of what a leaf gives, where there is one, is the least memory-order of each completion
pub ordered_if : {A : Type 0} (box : Box) → IsBox box → IsLeaf box → HasOneOrder box → (found : Option A) (order : A → List ℕ)
    → IfSome found (λ a. IsLeastOrderOf (length (box_events box)) (HappensBeforeIn box) (IsForbiddenIn box) (order a))
    → IfSome found (λ a. IsLeastOrderOfEach box (order a))
ordered_if box is_box leaf law None order none = none
ordered_if box is_box leaf law (Some a) order least = λ x is. leaf_ordered box is_box leaf law x is (order a) least

module _ (box : Box) (alone : AreAloneBelow box (length (byte_reads (box_events box)))) (sources : List ℕ) (long : length sources ≡ length (byte_reads (box_events box))) (lies : LiesIn box sources) where
  pub sources_same : (x : Execution) → IsCompletion box x → x.sources ≡ sources
  sources_same x is = same_number_lists x.sources sources (count ∙ sym long) same
    where
      count : length x.sources ≡ length (byte_reads (box_events box))
      count = (sourced box x is).one_each

      same : (k : ℕ) → k < length x.sources → get_or x.sources k 0 ≡ get_or sources k 0
      same k below =
          let here : k < length sources = omega (arith, below, count, long) in
          let one = alone k (omega (arith, below, count)) in
          one.1.alone (get_or x.sources k 0) (is.within k (get_or x.sources k 0) (slice_get-get_or x.sources k 0 below))
          ∙ sym (one.1.alone (get_or sources k 0) (lies k (get_or sources k 0) (slice_get-get_or sources k 0 here)))

  pub least_ordered : IsBox box → HasOneOrder box → (x : Execution) → IsCompletion box x → (order : List ℕ)
      → IsLeastOrderOf (length (box_events box)) (HappensBeforeIn box) (IsForbiddenIn box) order → IsLeastMemoryOrder (box_events box) sources order
  least_ordered is_box law x is order o =
      subst (λ (given : List ℕ). IsLeastMemoryOrder (box_events box) given order) (sources_same x is)
      (leaf_ordered box is_box (λ k below. inl (alone k below)) law x is order o)

-- it is the least of a box from which the descent leads to one where each domain has one source
module _ (old new : Box) (goal : Goal) (lowest : IsLowest old goal new) (alone : AreAloneBelow new (length (byte_reads (box_events new)))) (found : HasSolution new goal)
    (sources : List ℕ) (long : length sources ≡ length (byte_reads (box_events new))) (lies : LiesIn new sources) where
  same : found.0.sources ≡ sources
  same = sources_same new alone sources long lies found.0 found.1.completes

  pub not_less : (x : Execution) → IsSolution old goal x → slice_cmp nat_cmp x.sources sources ≢ Less
  not_less x is less = grind (arith, never_both_less, same, same_events, sourced, sources_lie, sources_same)

  -- a completion has these sources
  pub completion_found : (x : Execution) × IsCompletion old x × (x.sources ≡ sources)
  completion_found = (found.0, (solution_out new old goal lowest.within found.0 found.1).completes, same)

  pub least_found : IsBox new → HasOneOrder new → (order : List ℕ) → IsLeastOrderOf (length (box_events new)) (HappensBeforeIn new) (IsForbiddenIn new) order
      → IsLeastSolution old goal sources order
  least_found is_box law order o = grind (arith, least_ordered, not_less, same, same_events, solution_out)

-- ---- a pruned box has the solutions of the box before
pub least_told : {A : Type 0} (old new : Box) (goal : Goal) → Prunes old new → (found : Option A) (sources order : A → List ℕ)
    → MatchOption found (¬ HasSolution new goal) (λ one. IsLeastSolution new goal (sources one) (order one))
    → MatchOption found (¬ HasSolution old goal) (λ one. IsLeastSolution old goal (sources one) (order one))
least_told old new goal prunes found sources order none = grind arith
