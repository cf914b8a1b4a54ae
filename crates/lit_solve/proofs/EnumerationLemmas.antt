-- Enumerating the sources of a frame: the outcome of one completion of it, and the parts of a frame within another.
use Rattle.lit_solve.proofs.Words.{◌<◌, AddsEntries, ap, arith, Box, box_events, box_with, byte_reads, Entry, EventSet}
use Rattle.lit_solve.proofs.Words.{Execution, execution_outcome, get_or, HasEachOutcome, HasEvent, HasOutcome, HasSource, IsCompletion}
use Rattle.lit_solve.proofs.Words.{IfSome, IsRestricted, IsObservation, IsUndecidedAt, IsWithin, length, List, None, Option, refl, same_Some, slice_get, slice_get-get_or, Some, stored_for, subst, sym}
use Rattle.lit_solve.proofs.Words.{TakesFrom, ℕ, ◌↔◌, ◌∙◌, ◌≡◌}
use Rattle.lit_solve.proofs.CompletionLemmas.{sourced}
use Rattle.lit_solve.proofs.EntryLemmas.{adds_more, adds_stays}
use Rattle.lit_solve.proofs.ObservedLemmas.{IsSeen, seen_more, seen_stays}

-- ---- a completion that has these sources
module _ (box : Box) (sources : List ℕ) (x : Execution) (is : IsCompletion box x) (same : x.sources ≡ sources) where
  pub one_each : length sources ≡ length (byte_reads (box_events box))
  one_each = ap (λ (ws : List ℕ). length ws) (sym same) ∙ (sourced box x is).one_each

  module _ (k : ℕ) (inside : k < length (byte_reads (box_events box))) where
    takes : slice_get x.sources k ≡ Some (get_or sources k 0)
    takes = ap (λ (ws : List ℕ). slice_get ws k) same ∙ slice_get-get_or sources k 0 (omega (arith, inside, one_each))

    pub its_source : HasSource box k (get_or sources k 0)
    its_source = is.within k (get_or sources k 0) takes

    -- it takes one of those that store the same as its source
    pub takes_alike : (group : EventSet)
        → ((w : ℕ) → HasEvent group w ↔ (HasSource box k w × (stored_for box k w ≡ stored_for box k (get_or sources k 0)))) → TakesFrom x k group
    takes_alike group matching w at =
        subst (λ (v : ℕ). HasEvent group v) (same_Some (get_or sources k 0) w (sym takes ∙ at))
        ((matching (get_or sources k 0)).1 (its_source, refl))

-- ---- a part of a box within another
pub within_on : (inner middle outer : Box) → IsWithin inner middle → IsWithin middle outer → IsWithin inner outer
within_on inner middle outer one two = record {
  test = one.test ∙ two.test;
  combination = one.combination ∙ two.combination;
  domains = λ k w there. two.domains k w (one.domains k w there);
}

-- one part more is gone through, with entries of the other box
pub seen_next : (root box : Box) (k : ℕ) → k < length (byte_reads (box_events box)) → (old mid new : List Entry) (left part rest : EventSet)
    → ((w : ℕ) → HasEvent rest w ↔ (HasEvent left w × ¬ HasEvent part w)) → (domains : List EventSet)
    → IsRestricted box k part (box_with (box.test, box.combination) domains) → AddsEntries root old mid → IsSeen box k mid left
    → AddsEntries root mid new → HasEachOutcome (box_with (box.test, box.combination) domains) new
    → AddsEntries root old new × IsSeen box k new rest
seen_next root box k inside old mid new left part rest rest_is domains restricted added seen adds whole = (
  adds_more root old mid new added adds,
  seen_more (λ x. HasOutcome new (execution_outcome box.test x)) box k inside left part rest rest_is
      (λ x is takes. whole x (restricted.retained x is takes)) (seen_stays box k mid new left (λ outcome. adds_stays root mid new outcome adds) seen),
)

-- ---- what is observed of a frame
-- a byte read on which its outcome depends
pub undecided_of : (box : Box) (values : List ℕ) (found : Option ℕ) → IsObservation box values found
    → IfSome found (λ k. (k < length (byte_reads (box_events box))) × IsUndecidedAt box k)
undecided_of box values None is = tt
undecided_of box values (Some k) is = (is.0, is.1)
