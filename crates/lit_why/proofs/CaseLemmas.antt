-- Covers by refuted boxes: by one box, and by those that come of each source of a byte read in turn.
use Rattle.std.proofs.Common.{◌≡◌, ◌↔◌, ◌⊎◌, inl, inr, ℕ, zero, suc, ◌+◌, ◌-◌, ◌<◌, List, [], ◌∷◌, ◌++◌, Some, arith, get_or, length}
use Rattle.std.proofs.Common.{ap, refl, subst, sym, ◌∙◌}
use Rattle.std.specs.Prelude.{Bool, IsTrue, false, slice_get, true}
use Rattle.std.proofs.lemmas.Bool.{cases_eq, cases_lt, false≢true}
use Rattle.std.proofs.lemmas.List.{append-nil, append_assoc}
use Rattle.std.proofs.lemmas.Option.{same_Some, slice_get_within, slice_get-get_or}
use Rattle.lit_paths.specs.ByteReads.{byte_reads}
use Rattle.lit_paths.proofs.Products.{slice_get_left, slice_get_right}
use Rattle.lit_rel.specs.declared.event_set.EventSet.{EventSet}
use Rattle.lit_rel.specs.EventSet.{HasEvent, IsSplit}
use Rattle.lit_rel.proofs.SetLemmas.{event_or_not}
use Rattle.lit_order.specs.MemoryOrder.{HasOrder}
use Rattle.lit_solve.specs.Box.{Box, HasSource, IsBox, LiesIn, box_events}
use Rattle.lit_solve.specs.Fill.{AreSourcesIn}
use Rattle.lit_solve.proofs.DomainLemmas.{pruned_at, pruned_is_box, pruned_within, source_here, source_other}
use Rattle.lit_why.specs.declared.cases.covering.Case.{Case}
use Rattle.lit_why.specs.Refutation.{AreCases, AreWhole, HasCase, IsCaseOf, IsRefutation, case_box}
use Rattle.lit_why.specs.Internal.Cutting.{AddsCases}

-- an order by relations is one by others that hold of the same
pub order_by : (n m : ℕ) (before other : ℕ → ℕ → Type 0) (forbidden others : ℕ → ℕ → ℕ → Type 0) → n ≡ m
    → ((e d : ℕ) → before e d → other e d) → ((w r v : ℕ) → forbidden w r v → others w r v) → HasOrder m other others
    → HasOrder n before forbidden
order_by n m before other forbidden others same to to_too (order, is) =
    subst (λ (k : ℕ). HasOrder k before forbidden) (sym same) (
      order,
      record {
        complete = is.complete;
        keeps = λ a d h. is.keeps a d (to a d h);
        avoids = λ w r v f. is.avoids w r v (to_too w r v f);
      },
    )

none_in : (i : ℕ) (case : Case) → slice_get [] i ≡ Some case → ⊥
none_in i case at = let e = at in cc

-- ---- one box
only_one : (a b : Case) (i : ℕ) → slice_get (a ∷ []) i ≡ Some b → a ≡ b
only_one a b zero at = same_Some a b at
only_one a b (suc i) at = absurd (none_in i b at)

pub covers_itself : (box : Box) (old : List Case) (case : Case) → case_box box case ≡ box → IsBox box → IsRefutation box case.refusal
    → AddsCases box old (old ++ case ∷ []) true
covers_itself box old case same is_box refuted = record {
  added = case ∷ [];
  goes_on = refl;
  each = λ i other at. subst (IsCaseOf box) (only_one case other i at) (record {
    is_box = subst IsBox (sym same) is_box;
    within = record {
      test = refl;
      combination = refl;
      domains = λ k w there. subst (λ (b : Box). HasSource b k w) same there;
    };
    refuted = subst (λ (b : Box). IsRefutation b case.refusal) (sym same) refuted;
  });
  whole = λ all sources lie. record {
    place = 0;
    case = case;
    at_place = refl;
    lies = subst (λ (b : Box). LiesIn b sources) (sym same) lie.within;
  };
}

-- ---- all of a list that was empty
pub all_added : (box : Box) (old new : List Case) (all : Bool) → old ≡ [] → AddsCases box old new all
    → AreCases box new × (IsTrue all → AreWhole box new)
all_added box old new all empty adds =
    let same : new ≡ adds.added = adds.goes_on ∙ ap (λ (zs : List Case). zs ++ adds.added) empty in (
      subst (AreCases box) (sym same) adds.each,
      λ is. subst (AreWhole box) (sym same) (adds.whole is),
    )

-- ---- the sources of a byte read in turn
-- cases of a box that have all sources in it whose source at a place was tried before
pub record CoversPast (box : Box) (place : ℕ) (left : EventSet) (old new : List Case) : Type 0 where
  pub added : List Case
  pub goes_on : new ≡ old ++ added
  pub each : AreCases box added
  pub whole : (sources : List ℕ) → AreSourcesIn box sources → ((w : ℕ) → slice_get sources place ≡ Some w → ¬ HasEvent left w)
      → HasCase box added sources

has_left : (box : Box) (xs ys : List Case) (sources : List ℕ) → HasCase box xs sources → HasCase box (xs ++ ys) sources
has_left box xs ys sources h = record {
  place = h.place;
  case = h.case;
  at_place = slice_get_left xs ys h.place (slice_get_within xs h.place h.case h.at_place) ∙ h.at_place;
  lies = h.lies;
}

has_right : (box : Box) (xs ys : List Case) (sources : List ℕ) → HasCase box ys sources → HasCase box (xs ++ ys) sources
has_right box xs ys sources h = record {
  place = length xs + h.place;
  case = h.case;
  at_place = slice_get_right xs ys (length xs + h.place) h.place (omega arith) ∙ h.at_place;
  lies = h.lies;
}

parted : (xs ys : List Case) (i : ℕ) (a : Case) → slice_get (xs ++ ys) i ≡ Some a
    → (slice_get xs i ≡ Some a) ⊎ (slice_get ys (i - length xs) ≡ Some a)
parted xs ys i a at = elim (cases_lt i (length xs)) [
  | inl inside ↦ inl (sym (slice_get_left xs ys i inside) ∙ at)
  | inr past ↦ inr (sym (slice_get_right xs ys i (i - length xs) (omega (arith, past))) ∙ at)
]

module _ (box : Box) (place : ℕ) (inside : place < length (byte_reads (box_events box))) where
  source_at : (sources : List ℕ) → AreSourcesIn box sources → slice_get sources place ≡ Some (get_or sources place 0)
  source_at sources lie = slice_get-get_or sources place 0 (omega (arith, inside, lie.sourced.one_each))

  pub none_covered : (left : EventSet) → ((w : ℕ) → HasSource box place w → HasEvent left w) → (old : List Case)
      → CoversPast box place left old old
  none_covered left all old = record {
    added = [];
    goes_on = sym (append-nil old);
    each = λ i case at. absurd (none_in i case at);
    whole = λ sources lie past.
        let at = source_at sources lie in
        absurd (past (get_or sources place 0) at (all (get_or sources place 0) (lie.within place (get_or sources place 0) at)));
  }

  pub all_covered : (left : EventSet) → ((w : ℕ) → ¬ HasEvent left w) → (old new : List Case) → CoversPast box place left old new
      → AddsCases box old new true
  all_covered left none old new covers = record {
    added = covers.added;
    goes_on = covers.goes_on;
    each = covers.each;
    whole = λ all sources lie. covers.whole sources lie (λ w at. none w);
  }

  module _ (room : place < length box.domains) (left others one : EventSet) (source : ℕ) (split : IsSplit left source others)
      (within : (w : ℕ) → HasEvent left w → HasSource box place w) (only : (w : ℕ) → HasEvent one w ↔ (w ≡ source)) where
    abbrev next : Box
    next = pruned_at box place one

    one_within : (w : ℕ) → HasEvent one w → HasSource box place w
    one_within w there = subst (HasSource box place) (sym ((only w).0 there)) (within source split.there)

    pub next_is_box : IsBox box → IsBox next
    next_is_box is = pruned_is_box box place one room one_within is

    pub others_within : (w : ℕ) → HasEvent others w → HasSource box place w
    others_within w there = within w ((split.rest w).0 there).0

    in_next : (k w : ℕ) → HasSource next k w → HasSource box k w
    in_next = (pruned_within box place one room one_within).domains

    -- sources with this one at the place lie in the next box
    lie_next : (sources : List ℕ) → AreSourcesIn box sources → get_or sources place 0 ≡ source → AreSourcesIn next sources
    lie_next sources lie is = record {
      sourced = lie.sourced;
      within = λ k w at. elim (cases_eq k place) [
        | inl same ↦
            let at_place : slice_get sources place ≡ Some w = subst (λ (j : ℕ). slice_get sources j ≡ Some w) same at in
            let is_source : w ≡ source = same_Some w (get_or sources place 0) (sym at_place ∙ source_at sources lie) ∙ is in
            subst (λ (j : ℕ). HasSource next j w) (sym same) (source_here box place one room w ((only w).1 is_source))
        | inr other ↦ source_other box place one room k w other (lie.within k w at)
      ];
    }

    case_of_box : (case : Case) → IsCaseOf next case → IsCaseOf box case
    case_of_box case is = record {
      is_box = is.is_box;
      within = record { test = refl; combination = refl; domains = λ k w there. in_next k w (is.within.domains k w there) };
      refuted = is.refuted;
    }

    has_in_box : (cases : List Case) (sources : List ℕ) → HasCase next cases sources → HasCase box cases sources
    has_in_box cases sources h = record { place = h.place; case = h.case; at_place = h.at_place; lies = h.lies }

    both_added : (old mid new first second : List Case) → mid ≡ old ++ first → new ≡ mid ++ second
        → new ≡ old ++ (first ++ second)
    both_added old mid new first second before behind =
        behind ∙ ap (λ (zs : List Case). zs ++ second) before ∙ append_assoc old first second

    both_are_cases : (first second : List Case) → AreCases box first → AreCases next second → AreCases box (first ++ second)
    both_are_cases first second of_box of_next i case at = elim (parted first second i case at) [
      | inl left_one ↦ of_box i case left_one
      | inr right_one ↦ case_of_box case (of_next (i - length first) case right_one)
    ]

    -- the cases of the next box are not all
    pub cases_more : (old mid new : List Case) (all : Bool) → CoversPast box place left old mid → AddsCases next mid new all
        → AddsCases box old new false
    cases_more old mid new all before behind = record {
      added = before.added ++ behind.added;
      goes_on = both_added old mid new before.added behind.added before.goes_on behind.goes_on;
      each = both_are_cases before.added behind.added before.each behind.each;
      whole = λ all. absurd (false≢true all);
    }

    pub covers_more : (old mid new : List Case) (all : Bool) → IsTrue all → CoversPast box place left old mid
        → AddsCases next mid new all → CoversPast box place others old new
    covers_more old mid new all is_all before behind = record {
      added = before.added ++ behind.added;
      goes_on = both_added old mid new before.added behind.added before.goes_on behind.goes_on;
      each = both_are_cases before.added behind.added before.each behind.each;
      whole = λ sources lie past.
          let at = source_at sources lie in
          elim (event_or_not left (get_or sources place 0)) [
            | inl yet ↦ elim (cases_eq (get_or sources place 0) source) [
              | inl is ↦ has_right box before.added behind.added sources
                  (has_in_box behind.added sources (behind.whole is_all sources (lie_next sources lie is)))
              | inr other ↦ absurd (past (get_or sources place 0) at ((split.rest (get_or sources place 0)).1 (yet, other)))
            ]
            | inr gone ↦ has_left box before.added behind.added sources (before.whole sources lie (λ w at_w there.
                gone (subst (HasEvent left) (same_Some w (get_or sources place 0) (sym at_w ∙ at)) there)))
          ];
    }
