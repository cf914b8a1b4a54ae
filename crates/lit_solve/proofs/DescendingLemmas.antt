-- Greedy descent: the solutions that it leaves behind are not the least.
use Rattle.lit_solve.proofs.Words.{◌+◌, ◌<◌, AreAloneBelow, AreSourcesIn, arith, Box, box_events, byte_reads, cases_eq, cases_lt, EventSet}
use Rattle.lit_solve.proofs.Words.{Execution, get_or, get_or_from_slice_get, Goal, HasAlone, HasEmptyDomain, HasEvent, HasSource, inl, inr}
use Rattle.lit_solve.proofs.Words.{IsCompletion, IsRestricted, IsLowest, IsLowestAt, IsNotLeastAt, IsSolution, IsSplit, IsWithin, length, Less}
use Rattle.lit_solve.proofs.Words.{List, Litmus, MeetsGoal, nat_cmp, slice_cmp, slice_get, slice_get-get_or, Some, subst, sym, ℕ, ◌↔◌, ◌∙◌, ◌≡◌, ◌≢◌}
use Rattle.lit_solve.proofs.Words.{◌≤◌, ◌⊎◌}
use Rattle.lit_solve.proofs.BoxLemmas.{has_source}
use Rattle.lit_solve.proofs.CompletionLemmas.{sourced}
use Rattle.lit_solve.proofs.FrameLemmas.{below_or_last}
use Rattle.lit_solve.proofs.LexLemmas.{less_from_place}
use Rattle.lit_solve.proofs.SearchingLemmas.{takes_some}

-- a box restricted to one source has it alone
pub restricted_alone : (old new : Box) (k source : ℕ) (set : EventSet) → ((w : ℕ) → HasEvent set w → w ≡ source) → IsRestricted old k set new → k < length (byte_reads (box_events new)) → ¬ HasEmptyDomain new → HasAlone new k source
restricted_alone old new k source set one restricted inside some = record { there = there (has_source new k source); alone = λ v h. one v (restricted.inside v h) }
  where
    there : HasSource new k source ⊎ ¬ HasSource new k source → HasSource new k source
    there (inl h) = h
    there (inr absent) = absurd (some (k, inside, λ w h. absent (subst (λ (v : ℕ). HasSource new k v) (one w (restricted.inside w h)) h)))

-- the least source in `left`, where no solution takes a source that is not in `left`
module _ (old new : Box) (goal : Goal) (k : ℕ) (inside : k < length (byte_reads (box_events old))) (left others set : EventSet) (source : ℕ) (split : IsSplit left source others)
    (taken : (x : Execution) → IsSolution old goal x → (w : ℕ) → slice_get x.sources k ≡ Some w → HasEvent left w) (one : (w : ℕ) → HasEvent set w ↔ (w ≡ source)) (restricted : IsRestricted old k set new) (alone : HasAlone new k source) where
  remains_or_not_least : (x : Execution) → IsSolution old goal x → IsCompletion new x ⊎ IsNotLeastAt new k x
  remains_or_not_least x is = by (cases_eq some.0 source)
    where
      some : (w : ℕ) × (slice_get x.sources k ≡ Some w)
      some = takes_some old goal k inside x is

      by : (some.0 ≡ source) ⊎ (some.0 ≢ source) → IsCompletion new x ⊎ IsNotLeastAt new k x
      by (inl same) = inl (restricted.retained x is.completes (λ v at. (one v).1 ((let e : Some v ≡ Some some.0 = sym at ∙ some.1 in let f : v ≡ some.0 = cc in f) ∙ same)))
      by (inr other) = inr record { source = source; taken = some.0; alone = alone; takes = some.1; greater = greater (cases_lt source some.0) }
        where
          greater : (source < some.0) ⊎ (some.0 ≤ source) → source < some.0
          greater (inl less) = less
          greater (inr most) = absurd (split.least some.0 (omega (arith, most, other)) (taken x is some.0 some.1))

  pub lowest_at : IsLowestAt old goal k new
  lowest_at = record { within = restricted.within; not_least = remains_or_not_least }

-- ---- the descent
-- what is alone stays so in a box within, no domain of which is empty
pub alone_stays : (now was : Box) → IsWithin now was → ¬ HasEmptyDomain now → (k w : ℕ) → k < length (byte_reads (box_events now)) → HasAlone was k w → HasAlone now k w
alone_stays now was within some k w inside alone = record { there = there (has_source now k w); alone = λ v h. alone.alone v (within.domains k v h) }
  where
    there : HasSource now k w ⊎ ¬ HasSource now k w → HasSource now k w
    there (inl h) = h
    there (inr absent) = absurd (some (k, inside, λ v h. absent (subst (λ (u : ℕ). HasSource now k u) (alone.alone v (within.domains k v h)) h)))

pub alone_below_stays : (now was : Box) (n : ℕ) → IsWithin now was → ¬ HasEmptyDomain now → n ≤ length (byte_reads (box_events now)) → AreAloneBelow was n → AreAloneBelow now n
alone_below_stays now was n within some few alone k below = let one = alone k below in (one.0, alone_stays now was within some k one.0 (omega (arith, below, few)) one.1)

pub alone_more : (box : Box) (n : ℕ) → AreAloneBelow box n → (w : ℕ) × HasAlone box n w → AreAloneBelow box (n + 1)
alone_more box n alone one k below = elim (below_or_last k n below) [ inl less ↦ alone k less | inr last ↦ subst (λ (j : ℕ). (w : ℕ) × HasAlone box j w) (sym last) one ]

module _ (first was now : Box) (goal : Goal) (k : ℕ) (to : IsLowest first goal was) (on : IsLowestAt was goal k now) (alone : AreAloneBelow was k) (inside : k < length (byte_reads (box_events was))) where
  -- sources that lie in the box within lie in the other
  lie_out : (sources : List ℕ) → AreSourcesIn now sources → AreSourcesIn was sources
  lie_out sources lie = grind (arith, sourced)

  -- if a solution has a greater source at the place, all sources that lie in the box are less than its own
  sources_are_less : (x : Execution) → IsCompletion was x → IsNotLeastAt now k x → (sources : List ℕ) → AreSourcesIn now sources → slice_cmp nat_cmp sources x.sources ≡ Less
  sources_are_less x is not_least sources lie =
      less_from_place sources x.sources k long within record { same = same; greater = λ _. greater }
    where
      long : length sources ≡ length x.sources
      long = (lie_out sources lie).sourced.one_each ∙ sym (sourced was x is).one_each

      within : k < length sources
      within = omega (arith, inside, (lie_out sources lie).sourced.one_each)

      same : (j : ℕ) → j < k → get_or x.sources j 0 ≡ get_or sources j 0
      same j below =
          let here : j < length sources = omega (arith, below, within) in
          let there : j < length x.sources = omega (arith, below, within, long) in
          let one = alone j below in
          one.1.alone (get_or x.sources j 0) (is.within j (get_or x.sources j 0) (slice_get-get_or x.sources j 0 there))
          ∙ sym (one.1.alone (get_or sources j 0) ((lie_out sources lie).within j (get_or sources j 0) (slice_get-get_or sources j 0 here)))

      greater : get_or sources k 0 < get_or x.sources k 0
      greater =
          let least : get_or sources k 0 ≡ not_least.source = not_least.alone.alone (get_or sources k 0) (lie.within k (get_or sources k 0) (slice_get-get_or sources k 0 within)) in
          let other : get_or x.sources k 0 ≡ not_least.taken = get_or_from_slice_get x.sources k not_least.taken 0 not_least.takes in
          let less = not_least.greater in
          omega (arith, least, other, less)

  pub lowest_on : IsLowest first goal now
  lowest_on = record {
    within = record {
      test = on.within.test ∙ to.within.test;
      combination = on.within.combination ∙ to.within.combination;
      domains = λ j w h. to.within.domains j w (on.within.domains j w h);
    };
    not_least = λ x solves. elim (to.not_least x solves) [
      | inl completes ↦
          let meets = subst (λ (t : Litmus). MeetsGoal t goal x) (sym to.within.test) solves.meets in
          elim (on.not_least x (record { completes = completes; meets = meets })) [
            | inl stays ↦ inl stays
            | inr not_least ↦ inr (sources_are_less x completes not_least)
          ]
      | inr less ↦ inr (λ sources lie. less sources (lie_out sources lie))
    ];
  }
