-- The values that a read can have in a box with independent reads, found by going through the bytes that its sources store.
use Rattle.lit_solve.proofs.Words.{[], ◌++◌, ◌<◌, ◌↔◌, ◌∙◌, ◌∷◌, ◌≡◌, ◌≢◌, AddsFillings, All-permutation, ap, append_assoc, AreEventsIn}
use Rattle.lit_solve.proofs.Words.{AreFillings, AreSourcesIn, arith, Box, box_events, box_with, byte_read_at, byte_reads, cases_eq}
use Rattle.lit_solve.proofs.Words.{cases_lt, Contains-permutation, Event, EventSet, Execution, Filling, FillsRead, get_or}
use Rattle.lit_solve.proofs.Words.{get_or_from_slice_get, HasEvent, HasSource, HasValue, HaveEachValue, inl, inr, IsCompletion, IsRestricted}
use Rattle.lit_solve.proofs.Words.{IsFilled, IsFilling, IsIndependent, IsLeastFilling, IsNotGreaterOn, IsPermutation, Laws, length, Less}
use Rattle.lit_solve.proofs.Words.{List, nat_cmp, place-left, place-middle, slice_cmp, slice_get, slice_get-get_or, slice_get_within, Some}
use Rattle.lit_solve.proofs.Words.{stored_for, subst, suc, sym, TakesFrom, value_of, zero, ℕ}
use Rattle.lit_solve.proofs.CompletionLemmas.{sourced}
use Rattle.lit_solve.proofs.FillLemmas.{filled_by, sources_lie}
use Rattle.lit_solve.proofs.IndependentLemmas.{completes_with}
use Rattle.lit_solve.proofs.LeafLemmas.{IsFilledReadByRead}
use Rattle.lit_solve.proofs.LexLemmas.{less_from_place}
use Rattle.lit_solve.proofs.ObservedLemmas.{IsSeenBy, completes_within, same_stored, seen_more, takes_one}
use Rattle.lit_solve.proofs.PruningLemmas.{read_here}
use Rattle.lit_solve.proofs.TogetherLemmas.{AgreeOn, on_read, replaced, replaced_base, replaced_fill, replaced_lie, replaced_own, value_agrees}

module _ (laws : Laws) (box : Box) (is : IsIndependent box) (law : (b : Box) → IsFilledReadByRead b) (r : ℕ) where
  abbrev events : List Event
  events = box_events box

  -- ---- a completion with these sources for the read
  module _ (base : List ℕ) (lie : AreSourcesIn box base) (filled : (q : ℕ) → q < length (box_events box) → IsFilled box q base) (others : List ℕ)
      (fills : FillsRead box r others) where
    moved_completes : (x : Execution) × IsCompletion box x × (x.sources ≡ replaced box (laws.of_events (box_events box)) r others base fills.lie lie)
    moved_completes =
        completes_with box is (law box) (replaced box (laws.of_events (box_events box)) r others base fills.lie lie)
        (replaced_lie box (laws.of_events (box_events box)) r others base fills.lie lie)
        (replaced_fill box (laws.of_events (box_events box)) r others base fills.lie lie fills.filled filled)

    pub moved_to : (x : Execution) × IsCompletion box x × AgreeOn events r x.sources others
    moved_to = (
      moved_completes.0,
      moved_completes.1,
      λ k b at. ap (λ (s : List ℕ). slice_get s k) moved_completes.2
          ∙ replaced_own box (laws.of_events (box_events box)) r others base fills.lie lie k b at,
    )

    pub moved_others : (q : ℕ) → q ≢ r → AgreeOn events q moved_to.0.sources base
    unfolding moved_to moved_completes
    moved_others q other k b at =
        ap (λ (s : List ℕ). slice_get s k) moved_completes.2
        ∙ replaced_base box (laws.of_events (box_events box)) r others base fills.lie lie q other k b at

  -- it has the value
  pub value_there : (x : Execution) → IsCompletion box x → (others : List ℕ) → FillsRead box r others → AgreeOn events r x.sources others
      → value_of events x.sources r ≡ value_of events others r
  value_there x completes others fills agree = value_agrees events r x.sources others (sourced box x completes) fills.lie.sourced agree

  -- what a completion takes
  pub fills_own : (x : Execution) → IsCompletion box x → FillsRead box r x.sources
  fills_own x completes = record {
    lie = on_read box r x.sources (sources_lie box x completes);
    filled = filled_by box x completes laws is.is_box r;
  }

  -- ---- the least completion has the least sources for the read
  module _ (x : Execution) (completes : IsCompletion box x)
      (least : (y : Execution) → IsCompletion box y → slice_cmp nat_cmp y.sources x.sources ≢ Less) where
    pub least_not_greater : (others : List ℕ) → FillsRead box r others → IsNotGreaterOn events r x.sources others
    least_not_greater others fills k b at before = elim (cases_lt (get_or others k 0) (get_or x.sources k 0)) [
      | inr most ↦ most
      | inl less ↦ absurd (least z.0 z.1 (less_from_place z.0.sources x.sources k (long z.0 z.1 ∙ sym (long x completes)) inside (record {
        same = same;
        greater = λ _. let here = own_at k b at in omega (arith, here, less);
      })))
    ]
      where
        filled : (q : ℕ) → q < length (box_events box) → IsFilled box q x.sources
        filled q known = filled_by box x completes laws is.is_box q

        z : (y : Execution) × IsCompletion box y × AgreeOn events r y.sources others
        z = moved_to x.sources (sources_lie box x completes) filled others fills

        long : (y : Execution) → IsCompletion box y → length y.sources ≡ length (byte_reads events)
        long y is_y = (sourced box y is_y).one_each

        inside : k < length z.0.sources
        inside = omega (arith, long z.0 z.1, slice_get_within (byte_reads events) k (r, b) at)

        own_at : (j d : ℕ) → slice_get (byte_reads events) j ≡ Some (r, d) → get_or z.0.sources j 0 ≡ get_or others j 0
        own_at j d there =
            let below : j < length others = omega (arith, fills.lie.sourced.one_each, slice_get_within (byte_reads events) j (r, d) there) in
            get_or_from_slice_get z.0.sources j (get_or others j 0) 0 (z.2 j d there ∙ slice_get-get_or others j 0 below)

        same : (j : ℕ) → j < k → get_or x.sources j 0 ≡ get_or z.0.sources j 0
        same j before_k = elim (cases_eq (byte_read_at events j).0 r) [
          | inl its ↦
              (let there : slice_get (byte_reads events) j ≡ Some (r, (byte_read_at events j).1) =
              subst (λ (q : ℕ). slice_get (byte_reads events) j ≡ Some (q, (byte_read_at events j).1)) its here in
              sym (before j (byte_read_at events j).1 before_k there) ∙ sym (own_at j (byte_read_at events j).1 there))
          | inr other ↦ sym (get_or_from_slice_get z.0.sources j (get_or x.sources j 0) 0
              (moved_others x.sources (sources_lie box x completes) filled others fills (byte_read_at events j).0 other j (byte_read_at events j).1 here
              ∙ slice_get-get_or x.sources j 0 (omega (arith, long x completes, below))))
        ]
          where
            below : j < length (byte_reads events)
            below = omega (arith, before_k, slice_get_within (byte_reads events) k (r, b) at)

            here : slice_get (byte_reads events) j ≡ Some ((byte_read_at events j).0, (byte_read_at events j).1)
            here = read_here events j below

  -- the only value
  pub one_filling : (sources : List ℕ) (value : ℕ) → (x : Execution) × IsCompletion box x × (x.sources ≡ sources)
      → ((y : Execution) → IsCompletion box y → slice_cmp nat_cmp y.sources sources ≢ Less)
      → ((s : List ℕ) → AreSourcesIn box s → value_of events s r ≡ value) → IsLeastFilling box r value sources
  one_filling sources value some least one =
      subst (IsLeastFilling box r value) some.2 (record {
        fills = fills_own some.0 some.1;
        has = one some.0.sources (sources_lie box some.0 some.1);
        least = λ others fills same. least_not_greater some.0 some.1
            (λ y is_y. subst (λ (s : List ℕ). slice_cmp nat_cmp y.sources s ≢ Less) (sym some.2) (least y is_y)) others fills;
      })

-- ---- lists that go on
one_is : (box : Box) (r : ℕ) (filling : Filling) → IsFilling box r filling → AreFillings box r (filling ∷ [])
one_is box r filling is i other at = grind arith

pub adds_one_filling : (box : Box) (r : ℕ) (old new : List Filling) (filling : Filling) → IsFilling box r filling → new ≡ old ++ filling ∷ []
    → AddsFillings box r old new
adds_one_filling box r old new filling is goes_on = record { added = filling ∷ []; goes_on = goes_on; each = one_is box r filling is }

both_are : (box : Box) (r : ℕ) (first second : List Filling) → AreFillings box r first → AreFillings box r second → AreFillings box r (first ++ second)
both_are box r [] second one two i filling at = two i filling at
both_are box r (f ∷ first) second one two zero filling at = one zero filling at
both_are box r (f ∷ first) second one two (suc i) filling at = both_are box r first second (λ j g there. one (suc j) g there) two i filling at

pub adds_more_fillings : (box : Box) (r : ℕ) (old mid new : List Filling) → AddsFillings box r old mid → AddsFillings box r mid new
    → AddsFillings box r old new
adds_more_fillings box r old mid new one two = record {
  added = one.added ++ two.added;
  goes_on = two.goes_on ∙ ap (λ (fs : List Filling). fs ++ two.added) one.goes_on ∙ append_assoc old one.added two.added;
  each = both_are box r one.added two.added one.each two.each;
}

value_stays : (old more : List Filling) (value : ℕ) → HasValue old value → HasValue (old ++ more) value
value_stays old more value has = grind (arith, place-left)

pub value_goes_on : (box : Box) (r : ℕ) (old new : List Filling) (value : ℕ) → AddsFillings box r old new → HasValue old value → HasValue new value
value_goes_on box r old new value adds has = grind (arith, value_stays)

pub value_of_last : (old new : List Filling) (filling : Filling) (value : ℕ) → new ≡ old ++ filling ∷ [] → filling.value ≡ value → HasValue new value
value_of_last old new filling value is same =
    subst (λ (fs : List Filling). HasValue fs value) (sym is) (record { place = length old; filling = filling; is = place-middle old [] filling; same = same })

-- ---- lists sorted
pub fillings_sorted : (box : Box) (r : ℕ) (old new : List Filling) → IsPermutation old new → AreFillings box r old → AreFillings box r new
fillings_sorted box r old new moved are i filling at =
    let all = All-permutation (IsFilling box r) old new moved (λ k d below. are k (get_or old k d) (slice_get-get_or old k d below)) in
    subst (IsFilling box r) (get_or_from_slice_get new i filling filling at) (all i filling (slice_get_within new i filling at))

pub value_sorted : (old new : List Filling) (value : ℕ) → IsPermutation old new → HasValue old value → HasValue new value
value_sorted old new value moved has =
    let old_place = slice_get_within old has.place has.filling has.is in
    let there = Contains-permutation old new has.filling moved (has.place, old_place, get_or_from_slice_get old has.place has.filling has.filling has.is) in
    record {
      place = there.0;
      filling = has.filling;
      is = slice_get-get_or new there.0 has.filling there.1 ∙ ap (λ (f : Filling). Some f) there.2;
      same = has.same;
    }

-- ---- the part of a box by the sources of a byte read that store the same
module _ (laws : Laws) (box : Box) (is : IsIndependent box) (law : (b : Box) → IsFilledReadByRead b) (sound : AreEventsIn box.test.bytes (box_events box)) (r k : ℕ)
    (inside : k < length (byte_reads (box_events box))) (its : (byte_read_at (box_events box) k).0 ≡ r) (source : ℕ) (group : EventSet)
    (matching : (w : ℕ) → HasEvent group w ↔ (HasSource box k w × (stored_for box k w ≡ stored_for box k source)))
    (domains : List EventSet) (restricted : IsRestricted box k group (box_with (box.test, box.combination) domains)) where
  abbrev part : Box
  part = box_with (box.test, box.combination) domains

  module _ (part_is : IsIndependent part) where
    -- sources that give the read the same value lie in the part
    fills_in : (others sources : List ℕ) → FillsRead part r sources → FillsRead box r others
        → value_of (box_events box) others r ≡ value_of (box_events box) sources r → FillsRead part r others
    fills_in others sources fills others_fill same = record {
      lie = record { sourced = others_fill.lie.sourced; within = within };
      filled = record { tear_free = others_fill.filled.tear_free; guards = others_fill.filled.guards };
    }
      where
        x : (x : Execution) × IsCompletion box x × AgreeOn (box_events box) r x.sources others
        x = moved_to laws box is law r is.filled.sources is.filled.lie is.filled.each others others_fill

        y : (y : Execution) × IsCompletion part y × AgreeOn (box_events box) r y.sources sources
        y = moved_to laws part part_is law r part_is.filled.sources part_is.filled.lie part_is.filled.each sources fills

        y_out : IsCompletion box y.0
        y_out = completes_within box domains restricted.within y.0 y.1

        same_value : value_of (box_events box) x.0.sources r ≡ value_of (box_events box) y.0.sources r
        same_value =
            value_there laws box is law r x.0 x.1 others others_fill x.2 ∙ same ∙ sym (value_there laws part part_is law r y.0 y.1 sources fills y.2)

        takes : TakesFrom x.0 k group
        takes w at =
            let some = takes_one part k inside y.0 y.1 in
            let stored = same_stored laws box is.is_box sound k inside x.0 y.0 x.1 y_out
            (subst (λ (q : ℕ). value_of (box_events box) x.0.sources q ≡ value_of (box_events box) y.0.sources q) (sym its) same_value)
            w some.0 at some.1 in
            let there = (matching some.0).0 (restricted.inside some.0 (y.1.within k some.0 some.1)) in
            (matching w).1 (x.1.within k w at, stored ∙ there.1)

        within : (j b w : ℕ) → slice_get (byte_reads (box_events box)) j ≡ Some (r, b) → slice_get others j ≡ Some w → HasSource part j w
        within j b w at there = (restricted.retained x.0 x.1 takes).within j w (x.2 j b at ∙ there)

    filling_out : (value : ℕ) (sources : List ℕ) → IsLeastFilling part r value sources → IsLeastFilling box r value sources
    filling_out value sources filling = record {
      fills = record {
        lie = record {
          sourced = filling.fills.lie.sourced;
          within = λ j b w at there. restricted.within.domains j w (filling.fills.lie.within j b w at there);
        };
        filled = record { tear_free = filling.fills.filled.tear_free; guards = filling.fills.filled.guards };
      };
      has = filling.has;
      least = λ others fills same.
          filling.least others (fills_in others sources filling.fills fills (same ∙ sym filling.has)) same;
    }

    pub fillings_out : (old new : List Filling) → AddsFillings part r old new → AddsFillings box r old new
    fillings_out old new adds = record {
      added = adds.added;
      goes_on = adds.goes_on;
      each = λ i filling at.
          let one = adds.each i filling at in
          record { sources = one.sources; least = filling_out filling.value one.sources one.least; share = one.share };
    }

    -- one part more
    pub values_more : (old mid new : List Filling) (left rest : EventSet) → ((w : ℕ) → HasEvent rest w ↔ (HasEvent left w × ¬ HasEvent group w))
        → AddsFillings box r old mid → IsSeenBy (λ x. HasValue mid (value_of (box_events box) x.sources r)) box k left → AddsFillings part r mid new
        → HaveEachValue part r new
        → AddsFillings box r old new × IsSeenBy (λ x. HasValue new (value_of (box_events box) x.sources r)) box k rest
    values_more old mid new left rest rest_is added seen adds whole = (
      adds_more_fillings box r old mid new added (fillings_out mid new adds),
      seen_more (λ x. HasValue new (value_of (box_events box) x.sources r)) box k inside left group rest rest_is
          (λ x completes takes. whole x (restricted.retained x completes takes))
          (λ x completes. elim (seen x completes) [
            | inl has ↦ inl (value_goes_on box r mid new (value_of (box_events box) x.sources r) (fillings_out mid new adds) has)
            | inr takes ↦ inr takes
          ]),
    )
