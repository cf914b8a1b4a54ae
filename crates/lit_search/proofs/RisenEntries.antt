-- Entries in the order in which they were recorded: how they rise, and those of a map from outcomes to examples.
use Rattle.lit_search.proofs.Words.{◌++◌, ◌<◌, [], AllByRecursion, ap, are_same, AreMerged, arith, Bool, cond, Contains-permutation, Entry}
use Rattle.lit_search.proofs.Words.{Equal, false, get_or_from_slice_get, Greater, HasInEither, HasOutcome, inl, inr, insert_entry, is_eq}
use Rattle.lit_search.proofs.Words.{is_lt, is_some, IsDistinct, IsDistinct-IsPermutation, IsPermutation, IsPermutation-sym, IsSortedBy}
use Rattle.lit_search.proofs.Words.{IsStrictlySortedBy, IsTrue, keys_of, length, Less, List, lookup, map, merged, nat_eq}
use Rattle.lit_search.proofs.Words.{nat_list_cmp_total, nat_list_eq_equiv, Ordering, ordering_reverse, outcome_cmp, pointwise, ranks_by}
use Rattle.lit_search.proofs.Words.{refl, risen, same_Some, same_text, slice_get, slice_get-get_or, slice_get-map-known, slice_get_within}
use Rattle.lit_search.proofs.Words.{slice_index_or, Some, sorted_far, subst, suc, sym, texts_ties, true, unary_clauses, zero, ℕ, ◌↔◌, ◌∙◌}
use Rattle.lit_search.proofs.Words.{◌∷◌, ◌≡◌, ◌≢◌, ◌⊎◌}
use Rattle.lit_search.proofs.MergedEntries.{AreMerged-merged, AreRising-merged, AreRising, Stands, all_from_each, all_stand, differs, first_stands, later_stands, once, same_rising, stands_cases, stands_in_none}

flips : (a b : Entry) → are_same a b ≡ are_same b a
flips a b = nat_list_eq_equiv.symm a.outcome b.outcome

-- ---- one entry more
rises_alone : (e : Entry) → AreRising (e ∷ [])
unfolding IsStrictlySortedBy
rises_alone e = (tt, tt)

stands_alone : (e w : Entry) → Stands (e ∷ []) w → w ≡ e
stands_alone e w s = elim (stands_cases e w [] s) [ inl is ↦ is | inr t ↦ absurd (stands_in_none w t) ]

module _ (xs : List Entry) (e : Entry) (up : AreRising xs) where
  with_one : AreMerged xs (e ∷ []) (merged xs (e ∷ []))
  with_one = AreMerged-merged xs (e ∷ []) up (rises_alone e)

  stands_fewer : (w : Entry) → Stands (merged xs (e ∷ [])) w → (w ≡ e) ⊎ Stands xs w
  stands_fewer w s = elim (with_one.of_either w s) [ inl t ↦ inr t | inr t ↦ inl (stands_alone e w t) ]

  stands_more : ((y : Entry) → Stands xs y → y.outcome ≢ e.outcome) → (w : Entry) → HasInEither xs (e ∷ []) w → Stands (merged xs (e ∷ [])) w
  stands_more new w h =
      let m = with_one.whole w h in
      let its : (v : Entry) → v ≡ e → v.outcome ≡ e.outcome = λ v is. ap (λ (y : Entry). y.outcome) is in
      let is : m.0 ≡ w = elim (with_one.of_either m.0 m.1) [
        | inl s ↦ elim h [ inl t ↦ once xs up m.0 w s t m.2 | inr t ↦ absurd (new m.0 s (m.2 ∙ its w (stands_alone e w t))) ]
        | inr s ↦ elim h [
          | inl t ↦ absurd (new w t (sym m.2 ∙ its m.0 (stands_alone e m.0 s)))
          | inr t ↦ stands_alone e m.0 s ∙ sym (stands_alone e w t)
        ]
      ] in
      subst (λ (v : Entry). Stands (merged xs (e ∷ [])) v) is m.1

-- ---- entries made to rise
pub rises : (es : List Entry) → AreRising (risen es)
unfolding IsStrictlySortedBy
rises [] = tt
rises (x ∷ xs) = AreRising-merged (risen xs) (x ∷ []) (rises xs) (rises_alone x)

pub risen_from : (es : List Entry) (w : Entry) → Stands (risen es) w → Stands es w
risen_from [] w s = s
risen_from (x ∷ xs) w s = elim (stands_fewer (risen xs) x (rises xs) w s) [
  | inl is ↦ subst (λ (v : Entry). Stands (v ∷ xs) w) is (first_stands w xs)
  | inr t ↦ later_stands x w xs (risen_from xs w t)
]

not_equal : (a b : Entry) → are_same a b ≡ false → outcome_cmp b a ≢ Equal
not_equal a b h is = absurd (let e : true ≡ false = sym (ap is_eq is) ∙ sym (texts_ties b.outcome a.outcome) ∙ flips b a ∙ h in cc)

pub risen_to : (es : List Entry) → IsDistinct are_same es → (w : Entry) → Stands es w → Stands (risen es) w
unfolding IsDistinct
risen_to [] apart w s = s
risen_to (x ∷ xs) apart w s =
    stands_more (risen xs) x (rises xs)
    (λ y t. differs y.outcome x.outcome (not_equal x y (all_stand (λ v. are_same x v ≡ false) xs apart.0 y (risen_from xs y t)))) w
    (elim (stands_cases x w xs s) [
      | inl is ↦ inr (subst (λ (v : Entry). Stands (v ∷ []) w) is (first_stands w []))
      | inr t ↦ inl (risen_to xs apart.1 w t)
    ])

-- the rising list of the same entries
risen_is : (es zs : List Entry) → IsDistinct are_same es → AreRising zs → ((w : Entry) → Stands es w → Stands zs w) → ((w : Entry) → Stands zs w → Stands es w) → zs ≡ risen es
risen_is es zs apart up into back = same_rising zs (risen es) up (rises es) (λ w s. risen_to es apart w (back w s)) (λ w s. into w (risen_from es w s))

-- ---- which outcomes there are
pub retained_from : (es : List Entry) (outcome : List ℕ) → HasOutcome (risen es) outcome → HasOutcome es outcome
retained_from es outcome o = let s = risen_from es o.entry (o.place, o.is) in record { place = s.0; entry = o.entry; is = s.1; same = o.same }

pub retained_to : (es : List Entry) (outcome : List ℕ) → HasOutcome es outcome → HasOutcome (risen es) outcome
retained_to [] outcome o = o
retained_to (x ∷ xs) outcome o =
    let there : (v : Entry) → HasInEither (risen xs) (x ∷ []) v → v.outcome ≡ outcome → HasOutcome (merged (risen xs) (x ∷ [])) outcome =
    λ v h is. let m = (with_one (risen xs) x (rises xs)).whole v h in record { place = m.1.0; entry = m.0; is = m.1.1; same = m.2 ∙ is } in
    elim (stands_cases x o.entry xs (o.place, o.is)) [
      | inl is ↦ there x (inr (0, refl)) (sym (ap (λ (v : Entry). v.outcome) is) ∙ o.same)
      | inr t ↦
          let k = retained_to xs outcome (record { place = t.0; entry = o.entry; is = t.1; same = o.same }) in
          there k.entry (inl (k.place, k.is)) k.same
    ]

-- ---- sorted entries
stands_moved : (xs ys : List Entry) → IsPermutation xs ys → (w : Entry) → Stands xs w → Stands ys w
stands_moved xs ys moved w s =
    let h = Contains-permutation xs ys w moved (s.0, slice_get_within xs s.0 w s.1, get_or_from_slice_get xs s.0 w w s.1) in
    (h.0, slice_get-get_or ys h.0 w h.1 ∙ ap Some h.2)

module _ {A : Type 0} (f : A → Entry) where
  at_place : (xs : List A) (k : ℕ) (d : A) (y : Entry) → slice_get (map f xs) k ≡ Some y → (k < length xs) × (f (slice_index_or xs k d) ≡ y)
  at_place xs k d y is =
      let h = slice_get-map-known f xs k y is in
      (slice_get_within xs k h.0 h.1, ap f (get_or_from_slice_get xs k h.0 d h.1) ∙ h.2)

  -- those that are sorted, and of which no two have one outcome, rise
  sorted_rise : (xs : List A) → IsSortedBy (λ a b. is_lt (outcome_cmp (f a) (f b))) xs → IsDistinct are_same (map f xs) → AreRising (map f xs)
  unfolding IsStrictlySortedBy IsDistinct
  sorted_rise [] up apart = tt
  sorted_rise (x ∷ xs) up apart =
      (all_from_each _ (map f xs) below, sorted_rise xs (λ k d low high. simp unary_clauses (simp unary_clauses at (up (suc k) d (omega arith) (omega (arith, high))))) apart.1)
    where
      less : (o : Ordering) → o ≢ Equal → is_lt (ordering_reverse o) ≡ false → o ≡ Less
      less Less ne h = refl
      less Equal ne h = absurd (ne refl)
      less Greater ne h = absurd (let e : true ≡ false = h in cc)

      below : (y : Entry) → Stands (map f xs) y → outcome_cmp (f x) y ≡ Less
      below y s =
          let there = at_place xs s.0 x y s.1 in
          let far : is_lt (outcome_cmp (f (slice_index_or xs s.0 x)) (f x)) ≡ false = sorted_far _ (ranks_by nat_list_cmp_total (λ a. (f a).outcome)) (x ∷ xs) up 0 (suc s.0) x (omega arith) (omega (arith, there.0)) in
          let P : Entry → Type 0 = λ v. is_lt (outcome_cmp v (f x)) ≡ false in
          let Q : Ordering → Type 0 = λ o. is_lt o ≡ false in
          less (outcome_cmp (f x) y) (not_equal y (f x) (flips y (f x) ∙ all_stand _ (map f xs) apart.0 y s)) (subst Q (nat_list_cmp_total.antisymm y.outcome (f x).outcome) (subst P there.1 far))

  pub sorted_risen : (es : List Entry) (xs : List A) → IsDistinct are_same es → IsPermutation es (map f xs) → IsSortedBy (λ a b. is_lt (outcome_cmp (f a) (f b))) xs → map f xs ≡ risen es
  sorted_risen es xs apart moved up =
      risen_is es (map f xs) apart (sorted_rise xs up (IsDistinct-IsPermutation are_same flips es (map f xs) moved apart)) (stands_moved es (map f xs) moved)
      (stands_moved (map f xs) es (IsPermutation-sym es (map f xs) moved))

module _ {K X : Type 0} (key : K → List ℕ) (choice : X → ℕ) (order : X → List ℕ) where
  abbrev pub entry_of_pair : K × X → Entry
  entry_of_pair p = record { outcome = key p.0; choice = choice p.1; order = order p.1 }

  abbrev key_eq : K → K → Bool
  key_eq a b = pointwise nat_eq (key a) (key b)

  all_keys : (k : K) (x : X) (es : List (K × X)) → AllByRecursion (λ q. key_eq k q ≡ false) (keys_of es) → AllByRecursion (λ y. are_same (entry_of_pair (k, x)) y ≡ false) (map entry_of_pair es)
  all_keys k x [] h = tt
  all_keys k x (p ∷ es) h = (h.0, all_keys k x es h.1)

  pub IsDistinct-entry_of_pair : (es : List (K × X)) → IsDistinct key_eq (keys_of es) → IsDistinct are_same (map entry_of_pair es)
  unfolding IsDistinct
  IsDistinct-entry_of_pair [] h = tt
  IsDistinct-entry_of_pair (p ∷ es) h = (all_keys p.0 p.1 es h.0, IsDistinct-entry_of_pair es h.1)

  -- what a look-up of an outcome says
  found_from : (outcome : List ℕ) (es : List (K × X)) → IsTrue (is_some (lookup (λ k. pointwise nat_eq outcome (key k)) es)) → HasOutcome (map entry_of_pair es) outcome
  found_from outcome [] h = absurd (let e : false ≡ true = h in cc)
  found_from outcome (p ∷ es) h =
      let rest = lookup (λ k. pointwise nat_eq outcome (key k)) es in
      (elim (pointwise nat_eq outcome (key p.0)) as (λ b. pointwise nat_eq outcome (key p.0) ≡ b → IsTrue (is_some (cond b (Some p.1) rest))
      → HasOutcome (entry_of_pair p ∷ map entry_of_pair es) outcome) [
        | true ↦ λ e k. record { place = 0; entry = entry_of_pair p; is = refl; same = sym (same_text outcome (key p.0) (sym e)) }
        | false ↦ λ e k. let o = found_from outcome es k in record { place = suc o.place; entry = o.entry; is = o.is; same = o.same }
      ]) refl h

  found_to : (outcome : List ℕ) (es : List (K × X)) (i : ℕ) (entry : Entry) → slice_get (map entry_of_pair es) i ≡ Some entry → entry.outcome ≡ outcome → IsTrue (is_some (lookup (λ k. pointwise nat_eq outcome (key k)) es))
  found_to outcome [] i entry is same = absurd (let e = is in cc)
  found_to outcome (p ∷ es) zero entry is same =
      let equal : key p.0 ≡ outcome = ap (λ (e : Entry). e.outcome) (same_Some (entry_of_pair p) entry is) ∙ same in
      rw (subst (λ o. pointwise nat_eq outcome o ≡ true) (sym equal) (nat_list_eq_equiv.refl outcome)) refl
  found_to outcome (p ∷ es) (suc i) entry is same =
      elim (pointwise nat_eq outcome (key p.0)) as (λ b. IsTrue
      (is_some (cond b (Some p.1) (lookup (λ k. pointwise nat_eq outcome (key k)) es)))) [
        | true ↦ refl
        | false ↦ found_to outcome es i entry is same
      ]

  pub lookup_finds : (outcome : List ℕ) (es : List (K × X)) → IsTrue (is_some (lookup (λ k. pointwise nat_eq outcome (key k)) es)) ↔ HasOutcome (map entry_of_pair es) outcome
  lookup_finds outcome es = (found_from outcome es, λ o. found_to outcome es o.place o.entry o.is o.same)

  -- a new outcome is put behind the others
  pub put_new : (es : List (K × X)) (k : K) (x : X) → ¬ HasOutcome (map entry_of_pair es) (key k) → map entry_of_pair (insert_entry key_eq es k x) ≡ map entry_of_pair es ++ entry_of_pair (k, x) ∷ []
  put_new [] k x new = refl
  put_new (p ∷ es) k x new =
      (elim (key_eq k p.0) as (λ b. key_eq k p.0 ≡ b
      → map entry_of_pair (cond b ((p.0, x) ∷ es) (p ∷ insert_entry key_eq es k x)) ≡ entry_of_pair p ∷ (map entry_of_pair es ++ entry_of_pair (k, x) ∷ [])) [
        | true ↦ λ e. absurd (new (record { place = 0; entry = entry_of_pair p; is = refl; same = sym (same_text (key k) (key p.0) (sym e)) }))
        | false ↦ λ e. ap (λ (ys : List Entry). entry_of_pair p ∷ ys)
            (put_new es k x (λ o. new (record { place = suc o.place; entry = o.entry; is = o.is; same = o.same })))
      ]) refl
