-- Entries that rise by outcome: which stand in a list, how their examples compare, and two such lists merged.
use Rattle.lit_search.proofs.Words.{◌++◌, [], all_weaker, AllByRecursion, ap, AreMerged, comparing, cond, Entry, Equal, exact_bytes}
use Rattle.lit_search.proofs.Words.{example_cmp, false, Greater, HasEntry, HasInEither, heads_cmp, inl, inr, is_gt, IsFalse}
use Rattle.lit_search.proofs.Words.{IsStrictlySortedBy, IsTotalOrder, length, Less, lesser, List, map, match_ordering, merged, nat_cmp}
use Rattle.lit_search.proofs.Words.{nat_list_cmp_total, nil_from_length, None, on, Option, option_map, option_to_list, Ordering}
use Rattle.lit_search.proofs.Words.{ordering_reverse, outcome_cmp, refl, rules, same_Some, slice_cmp, slice_get, Some, subst, suc, sym}
use Rattle.lit_search.proofs.Words.{then_cmp, true, zero, ℕ, ◌∙◌, ◌∷◌, ◌≡◌, ◌≢◌, ◌⊎◌}

-- entries with rising outcomes
abbrev pub AreRising : List Entry → Type 0
AreRising xs = IsStrictlySortedBy outcome_cmp xs

abbrev pub cmp : List ℕ → List ℕ → Ordering
cmp a b = slice_cmp nat_cmp a b

-- ---- comparing
pub less_is : (o : Ordering) → o ≡ Less → o ≢ Equal
less_is o e f = absurd cc

itself : (o : Ordering) → o ≡ ordering_reverse o → o ≡ Equal
itself Less e = absurd cc
itself Equal e = refl
itself Greater e = absurd cc

pub cmp_same : (a : List ℕ) → cmp a a ≡ Equal
cmp_same a = itself (cmp a a) (nat_list_cmp_total.antisymm a a)

-- what does not compare equal differs
pub differs : (a b : List ℕ) → cmp a b ≢ Equal → a ≢ b
differs a b ne e = let P : List ℕ → Type 0 = λ z. cmp a z ≡ Equal in ne (subst P e (cmp_same a))

pub reversed : (a b : List ℕ) → cmp a b ≡ Greater → cmp b a ≡ Less
reversed a b h = nat_list_cmp_total.antisymm b a ∙ ap ordering_reverse h

-- ---- comparing examples
example_total : IsTotalOrder (then_cmp (on (λ (e : Entry). e.choice) nat_cmp) (on (λ (e : Entry). e.order) (slice_cmp nat_cmp)))
example_total = search (comparing, rules)

pub not_after_itself : (a : Entry) → IsFalse (is_gt (example_cmp a a))
not_after_itself a = ap is_gt (itself (example_cmp a a) (example_total.antisymm a a))

pub not_after_greater : (a b : Entry) → is_gt (example_cmp a b) ≡ is_gt Greater → IsFalse (is_gt (example_cmp b a))
not_after_greater a b h = ap is_gt (example_total.antisymm b a)
    ∙ (elim (example_cmp a b) as (λ o. is_gt o ≡ is_gt Greater → is_gt (ordering_reverse o) ≡ is_gt Less) [
      | Less ↦ λ e. sym e
      | Equal ↦ λ e. refl
      | Greater ↦ λ e. refl
    ]) h

-- ---- standing in a list
abbrev pub Stands : List Entry → Entry → Type 0
Stands xs entry = HasEntry xs entry

pub first_stands : (x : Entry) (xs : List Entry) → Stands (x ∷ xs) x
first_stands x xs = (0, refl)

pub later_stands : (x y : Entry) (xs : List Entry) → Stands xs y → Stands (x ∷ xs) y
later_stands x y xs s = (suc s.0, s.1)

pub stands_in_none : (y : Entry) → Stands [] y → ⊥
stands_in_none y s = absurd (let e = s.1 in cc)

-- an entry of x ∷ xs is x, or stands in xs
pub stands_cases : (x y : Entry) (xs : List Entry) → Stands (x ∷ xs) y → (y ≡ x) ⊎ Stands xs y
stands_cases x y xs s = (elim s.0 as (λ k. slice_get (x ∷ xs) k ≡ Some y → (y ≡ x) ⊎ Stands xs y) [
  | zero ↦ λ e. inl (sym (same_Some x y e))
  | suc k ↦ λ e. inr (k, e)
]) s.1

-- what holds of all, by recursion, holds of one, and back
pub all_stand : (P : Entry → Type 0) (xs : List Entry) → AllByRecursion P xs → (y : Entry) → Stands xs y → P y
all_stand P [] h y s = absurd (stands_in_none y s)
all_stand P (x ∷ xs) h y s = elim (stands_cases x y xs s) [ inl e ↦ subst P (sym e) h.0 | inr t ↦ all_stand P xs h.1 y t ]

pub all_from_each : (P : Entry → Type 0) (xs : List Entry) → ((y : Entry) → Stands xs y → P y) → AllByRecursion P xs
all_from_each P [] each = tt
all_from_each P (x ∷ xs) each = (each x (first_stands x xs), all_from_each P xs (λ y s. each y (later_stands x y xs s)))

-- what is below the first is below all
pub below_rising : (e x : Entry) (xs : List Entry) → outcome_cmp e x ≡ Less → AllByRecursion (λ y. outcome_cmp x y ≡ Less) xs → AllByRecursion (λ y. outcome_cmp e y ≡ Less) xs
below_rising e x xs lt h = all_weaker _ _ (λ y k. nat_list_cmp_total.trans e.outcome x.outcome y.outcome lt k) xs h

-- what the first is below has another outcome
outcome_after : (z y : Entry) (zs : List Entry) → AllByRecursion (λ w. outcome_cmp z w ≡ Less) zs → Stands zs y → z.outcome ≢ y.outcome
outcome_after z y zs all s = differs z.outcome y.outcome (less_is _ (all_stand (λ w. outcome_cmp z w ≡ Less) zs all y s))

-- ---- rising lists
-- an outcome stands once
pub once : (zs : List Entry) → AreRising zs → (e f : Entry) → Stands zs e → Stands zs f → e.outcome ≡ f.outcome → e ≡ f
unfolding IsStrictlySortedBy
once [] up e f s t same = absurd (stands_in_none e s)
once (z ∷ zs) up e f s t same = elim (stands_cases z e zs s) [
  | inl a ↦ elim (stands_cases z f zs t) [
    | inl b ↦ a ∙ sym b
    | inr u ↦ absurd (outcome_after z f zs up.0 u (sym (ap (λ (w : Entry). w.outcome) a) ∙ same))
  ]
  | inr u ↦ elim (stands_cases z f zs t) [
    | inl b ↦ absurd (outcome_after z e zs up.0 u (sym (ap (λ (w : Entry). w.outcome) b) ∙ sym same))
    | inr v ↦ once zs up.1 e f u v same
  ]
]

-- two of which each entry of one is one of the other are the same
pub same_rising : (xs ys : List Entry) → AreRising xs → AreRising ys → ((e : Entry) → Stands xs e → Stands ys e)
    → ((e : Entry) → Stands ys e → Stands xs e) → xs ≡ ys
unfolding IsStrictlySortedBy
same_rising [] [] up vp f g = refl
same_rising [] (y ∷ ys) up vp f g = absurd (stands_in_none y (g y (first_stands y ys)))
same_rising (x ∷ xs) [] up vp f g = absurd (stands_in_none x (f x (first_stands x xs)))
same_rising (x ∷ xs) (y ∷ ys) up vp f g =
    let heads : x ≡ y = elim (stands_cases y x ys (f x (first_stands x xs))) [
      | inl e ↦ e
      | inr s ↦ elim (stands_cases x y xs (g y (first_stands y ys))) [
        | inl e ↦ sym e
        | inr t ↦ absurd (less_is _ (nat_list_cmp_total.trans x.outcome y.outcome x.outcome
            (all_stand (λ w. outcome_cmp x w ≡ Less) xs up.0 y t)
            (all_stand (λ w. outcome_cmp y w ≡ Less) ys vp.0 x s)) (cmp_same x.outcome))
      ]
    ] in
    let rest : xs ≡ ys = same_rising xs ys up.1 vp.1 (λ e s. elim (stands_cases y e ys (f e (later_stands x e xs s))) [
      | inl is ↦ absurd (outcome_after x e xs up.0 s (ap (λ (w : Entry). w.outcome) (heads ∙ sym is)))
      | inr t ↦ t
    ]) (λ e s. elim (stands_cases x e xs (g e (later_stands y e ys s))) [
      | inl is ↦ absurd (outcome_after y e ys vp.0 s (ap (λ (w : Entry). w.outcome) (sym heads ∙ sym is)))
      | inr t ↦ t
    ]) in
    cc

-- ---- two rising lists merged: rising, with each outcome of both and the lesser of its examples
-- ---- the lesser of two
lesser_has : (P : Entry → Type 0) (a b : Entry) → P a → P b → P (lesser a b)
lesser_has P a b p q = elim (is_gt (example_cmp a b)) as (λ g. P (cond g b a)) [ true ↦ q | false ↦ p ]

lesser_before : (a b : Entry) → IsFalse (is_gt (example_cmp (lesser a b) a))
lesser_before a b = (elim (is_gt (example_cmp a b)) as (λ g. is_gt (example_cmp a b) ≡ g → IsFalse (is_gt (example_cmp (cond g b a) a)))
    [ true ↦ λ e. not_after_greater a b e | false ↦ λ e. not_after_itself a ]) refl

lesser_behind : (a b : Entry) → IsFalse (is_gt (example_cmp (lesser a b) b))
lesser_behind a b = (elim (is_gt (example_cmp a b)) as (λ g. is_gt (example_cmp a b) ≡ g → IsFalse (is_gt (example_cmp (cond g b a) b)))
    [ true ↦ λ e. not_after_itself b | false ↦ λ e. e ]) refl

-- ---- induction on two lists merged
module _ (P : (xs ys zs : List Entry) → Type 0) (left : (ys : List Entry) → P [] ys ys)
    (right : (x : Entry) (xs : List Entry) → P (x ∷ xs) [] (x ∷ xs))
    (less : (x y : Entry) (xs ys : List Entry) → outcome_cmp x y ≡ Less → P xs (y ∷ ys) (merged xs (y ∷ ys))
    → P (x ∷ xs) (y ∷ ys) (x ∷ merged xs (y ∷ ys)))
    (equal : (x y : Entry) (xs ys : List Entry) → outcome_cmp x y ≡ Equal → P xs ys (merged xs ys)
    → P (x ∷ xs) (y ∷ ys) (lesser x y ∷ merged xs ys))
    (greater : (x y : Entry) (xs ys : List Entry) → outcome_cmp x y ≡ Greater → P (x ∷ xs) ys (merged (x ∷ xs) ys)
    → P (x ∷ xs) (y ∷ ys) (y ∷ merged (x ∷ xs) ys)) where
  by_first : (x : Entry) (xs : List Entry) → ((zs : List Entry) → P xs zs (merged xs zs)) → (ys : List Entry)
      → P (x ∷ xs) ys (merged (x ∷ xs) ys)
  by_first x xs rest [] = right x xs
  by_first x xs rest (y ∷ ys) = (elim (outcome_cmp x y) as (λ o. outcome_cmp x y ≡ o
      → P (x ∷ xs) (y ∷ ys) (match_ordering o (x ∷ merged xs (y ∷ ys)) (lesser x y ∷ merged xs ys) (y ∷ merged (x ∷ xs) ys))) [
        | Less ↦ λ e. less x y xs ys e (rest (y ∷ ys))
        | Equal ↦ λ e. equal x y xs ys e (rest ys)
        | Greater ↦ λ e. greater x y xs ys e (by_first x xs rest ys)
      ]) refl

  merging : (xs ys : List Entry) → P xs ys (merged xs ys)
  merging [] ys = left ys
  merging (x ∷ xs) ys = by_first x xs (merging xs) ys

-- ---- what holds of all entries
pub all_merged : (P : Entry → Type 0) (xs ys : List Entry) → AllByRecursion P xs → AllByRecursion P ys → AllByRecursion P (merged xs ys)
all_merged P = merging (λ xs ys zs. AllByRecursion P xs → AllByRecursion P ys → AllByRecursion P zs) (λ ys h k. k) (λ x xs h k. h)
    (λ x y xs ys e rest h k. (h.0, rest h.1 k))
    (λ x y xs ys e rest h k. (lesser_has P x y h.0 k.0, rest h.1 k.1))
    (λ x y xs ys e rest h k. (k.0, rest h k.1))

-- ---- rising
pub AreRising-merged : (xs ys : List Entry) → AreRising xs → AreRising ys → AreRising (merged xs ys)
unfolding IsStrictlySortedBy
AreRising-merged = merging (λ xs ys zs. AreRising xs → AreRising ys → AreRising zs) (λ ys up vp. vp) (λ x xs up vp. up)
    (λ x y xs ys e rest up vp. (all_merged (λ w. outcome_cmp x w ≡ Less) xs (y ∷ ys) up.0 (e, below_rising x y ys e vp.0), rest up.1 vp))
    (λ x y xs ys e rest up vp.
    let same : x.outcome ≡ y.outcome = exact_bytes x.outcome y.outcome e in
    let is_x : x.outcome ≡ (lesser x y).outcome = lesser_has (λ w. x.outcome ≡ w.outcome) x y refl same in (
      all_merged (λ w. outcome_cmp (lesser x y) w ≡ Less) xs ys (rw (← is_x) up.0) (rw (← is_x, same) vp.0),
      rest up.1 vp.1,
    ))
    (λ x y xs ys e rest up vp.
    let lt = reversed x.outcome y.outcome e in
    (all_merged (λ w. outcome_cmp y w ≡ Less) (x ∷ xs) ys (lt, below_rising y x xs lt up.0) vp.0, rest up vp.1))

-- ---- what stands there
-- the entry's outcome stands with an example that is not greater
pub record Comes (zs : List Entry) (w : Entry) : Type 0 where
  pub entry : Entry
  pub stands : Stands zs entry
  pub same : entry.outcome ≡ w.outcome
  pub least : IsFalse (is_gt (example_cmp entry w))

comes_later : (z w : Entry) (zs : List Entry) → Comes zs w → Comes (z ∷ zs) w
comes_later z w zs c = record { entry = c.entry; stands = later_stands z c.entry zs c.stands; same = c.same; least = c.least }

comes_itself : (zs : List Entry) (w : Entry) → Stands zs w → Comes zs w
comes_itself zs w s = record { entry = w; stands = s; same = refl; least = not_after_itself w }

-- what stands in x ∷ xs comes behind z, which has the outcome of x
comes_behind : (w x z : Entry) (xs zs : List Entry) → z.outcome ≡ x.outcome → IsFalse (is_gt (example_cmp z x))
    → (Stands xs w → Comes zs w) → Stands (x ∷ xs) w → Comes (z ∷ zs) w
comes_behind w x z xs zs same least later s = elim (stands_cases x w xs s) [
  | inl is ↦ rw is (record { entry = z; stands = first_stands z zs; same = same; least = least })
  | inr t ↦ comes_later z w zs (later t)
]

comes : (w : Entry) (xs ys : List Entry) → Stands xs w ⊎ Stands ys w → Comes (merged xs ys) w
comes w = merging (λ xs ys zs. Stands xs w ⊎ Stands ys w → Comes zs w)
    (λ ys s. elim s [ inl t ↦ absurd (stands_in_none w t) | inr t ↦ comes_itself ys w t ])
    (λ x xs s. elim s [ inl t ↦ comes_itself (x ∷ xs) w t | inr t ↦ absurd (stands_in_none w t) ])
    (λ x y xs ys e rest s. elim s [
      | inl t ↦ comes_behind w x x xs (merged xs (y ∷ ys)) refl (not_after_itself x) (λ u. rest (inl u)) t
      | inr t ↦ comes_later x w (merged xs (y ∷ ys)) (rest (inr t))
    ])
    (λ x y xs ys e rest s.
    let same = exact_bytes x.outcome y.outcome e in
    let has = lesser_has (λ v. v.outcome ≡ x.outcome) x y refl (sym same) in
    elim s [
      | inl t ↦ comes_behind w x (lesser x y) xs (merged xs ys) has (lesser_before x y) (λ u. rest (inl u)) t
      | inr t ↦ comes_behind w y (lesser x y) ys (merged xs ys) (has ∙ same) (lesser_behind x y) (λ u. rest (inr u)) t
    ])
    (λ x y xs ys e rest s. elim s [
      | inl t ↦ comes_later y w (merged (x ∷ xs) ys) (rest (inl t))
      | inr t ↦ comes_behind w y y ys (merged (x ∷ xs) ys) refl (not_after_itself y) (λ u. rest (inr u)) t
    ])

-- ---- as reports
pub AreMerged-merged : (a b : List Entry) → AreRising a → AreRising b → AreMerged a b (merged a b)
AreMerged-merged a b up vp =
    let rising = AreRising-merged a b up vp in
    record {
      rising = rising;
      of_either = all_stand (HasInEither a b) (merged a b) (all_merged (HasInEither a b) a b
          (all_from_each (HasInEither a b) a (λ e s. inl s)) (all_from_each (HasInEither a b) b (λ e s. inr s)));
      least = λ e w h k same.
          let m = comes w a b k in
          subst (λ v. IsFalse (is_gt (example_cmp v w))) (once (merged a b) rising m.entry e m.stands h (m.same ∙ same)) m.least;
      whole = λ w k. let m = comes w a b k in (m.entry, m.stands, m.same);
    }

-- ---- one entry after the other
pub merged-none : (xs : List Entry) → merged xs [] ≡ xs
merged-none [] = refl
merged-none (x ∷ xs) = refl

-- where one list is empty, the other is the merge
pub merged-none_left : (xs ys : List Entry) → length xs ≡ 0 → ys ≡ merged xs ys
merged-none_left xs ys none = subst (λ (zs : List Entry). ys ≡ merged zs ys) (sym (nil_from_length xs none)) refl

pub merged-none_right : (xs ys : List Entry) → length ys ≡ 0 → xs ≡ merged xs ys
merged-none_right xs ys none = subst (λ (zs : List Entry). xs ≡ merged xs zs) (sym (nil_from_length ys none)) (sym (merged-none xs))

merged-less : (x : Entry) (xs ys : List Entry) → heads_cmp (x ∷ xs) ys ≡ Less → merged (x ∷ xs) ys ≡ x ∷ merged xs ys
merged-less x xs [] h = ap (λ (zs : List Entry). x ∷ zs) (sym (merged-none xs))
merged-less x xs (y ∷ ys) h = rw h refl

module _ {K : Type 0} (f : K → Entry) where
  -- the first of the first list
  pub taken_less : (xs rest ys : List K) (r : Option K) → heads_cmp (map f xs) (map f ys) ≡ Less → xs ≡ option_to_list r ++ rest → merged (map f xs) (map f ys) ≡ option_to_list (option_map f r) ++ merged (map f rest) (map f ys)
  taken_less xs rest ys None h is = ap (λ (zs : List K). merged (map f zs) (map f ys)) is
  taken_less xs rest ys (Some x) h is =
      let P : List K → Type 0 = λ zs. heads_cmp (map f zs) (map f ys) ≡ Less in
      ap (λ (zs : List K). merged (map f zs) (map f ys)) is ∙ merged-less (f x) (map f rest) (map f ys) (subst P is h)
