-- Equivalent lists: permutations of each other, also where each element is mapped to a list and these are concatenated.
use Rattle.std.proofs.Common.{◌≡◌, ◌≢◌, ℕ, zero, suc, List, [], ◌∷◌, ◌++◌, set, refl, sym, ap, subst, append_assoc}
use Rattle.std.specs.List.{flat_map}
use Rattle.std.specs.List.Sorted.{IsPermutation}
use Rattle.std.proofs.lemmas.List.Sorted.{IsPermutation-refl, IsPermutation-cons, IsPermutation-trans, IsPermutation-middle, IsPermutation-append_left, IsPermutation-append_right, IsPermutation-append_comm}
use mathlib.Core.Option.{some, some-ne-none, some-injective}
use lib.ListN.{get_elem?}

swapped_parts : (a b c : List ℕ) → IsPermutation (a ++ (b ++ c)) (b ++ (a ++ c))
swapped_parts a b c =
    subst (λ l. IsPermutation l (b ++ (a ++ c))) (append_assoc a b c) (subst (λ l. IsPermutation ((a ++ b) ++ c) l) (append_assoc b a c) (IsPermutation-append_left c (a ++ b) (b ++ a) (IsPermutation-append_comm a b)))

module _ {X : Type 0} where
  pub record AreEquivalent (xs ys : List X) : Type 0 where
    pub moved : IsPermutation xs ys
    pub joined : (f : X → List ℕ) → IsPermutation (flat_map f xs) (flat_map f ys)

  pub equivalent_refl : (xs : List X) → AreEquivalent xs xs
  equivalent_refl xs = record { moved = IsPermutation-refl xs; joined = λ f. IsPermutation-refl (flat_map f xs) }

  pub equivalent_trans : (xs ys zs : List X) → AreEquivalent xs ys → AreEquivalent ys zs → AreEquivalent xs zs
  equivalent_trans xs ys zs h k = record { moved = IsPermutation-trans xs ys zs h.moved k.moved; joined = λ f. IsPermutation-trans (flat_map f xs) (flat_map f ys) (flat_map f zs) (h.joined f) (k.joined f) }

  pub equivalent_cons : (x : X) (xs ys : List X) → AreEquivalent xs ys → AreEquivalent (x ∷ xs) (x ∷ ys)
  equivalent_cons x xs ys h = record { moved = IsPermutation-cons x xs ys h.moved; joined = λ f. IsPermutation-append_right (f x) (flat_map f xs) (flat_map f ys) (h.joined f) }

  pub equivalent_swap : (x y : X) (xs : List X) → AreEquivalent (x ∷ y ∷ xs) (y ∷ x ∷ xs)
  equivalent_swap x y xs = record { moved = IsPermutation-middle (x ∷ []) y xs; joined = λ f. swapped_parts (f x) (f y) (flat_map f xs) }

  -- the list without one element
  abbrev pub without : List X → ℕ → List X
  without [] i = []
  without (x ∷ xs) zero = xs
  without (x ∷ xs) (suc i) = x ∷ without xs i

  pub front_equivalent : (l : List X) (i : ℕ) (v : X) → get_elem? l i ≡ some v → AreEquivalent l (v ∷ without l i)
  front_equivalent [] i v e = absurd (some-ne-none v (sym e))
  front_equivalent (x ∷ xs) zero v e = subst (λ y. AreEquivalent (x ∷ xs) (y ∷ xs)) (some-injective x v e) (equivalent_refl (x ∷ xs))
  front_equivalent (x ∷ xs) (suc i) v e =
      equivalent_trans (x ∷ xs) (x ∷ v ∷ without xs i) (v ∷ x ∷ without xs i) (equivalent_cons x xs (v ∷ without xs i) (front_equivalent xs i v e)) (equivalent_swap x v (without xs i))

  pub set_equivalent : (l : List X) (i : ℕ) (v w : X) → get_elem? l i ≡ some v → AreEquivalent (w ∷ without l i) (set l i w)
  set_equivalent [] i v w e = absurd (some-ne-none v (sym e))
  set_equivalent (x ∷ xs) zero v w e = equivalent_refl (w ∷ xs)
  set_equivalent (x ∷ xs) (suc i) v w e =
      equivalent_trans (w ∷ x ∷ without xs i) (x ∷ w ∷ without xs i) (x ∷ set xs i w) (equivalent_swap w x (without xs i)) (equivalent_cons x (w ∷ without xs i) (set xs i w) (set_equivalent xs i v w e))

  pub last_equivalent : (x : X) (xs : List X) → AreEquivalent (x ∷ xs) (xs ++ x ∷ [])
  last_equivalent x [] = equivalent_refl (x ∷ [])
  last_equivalent x (y ∷ ys) = equivalent_trans (x ∷ y ∷ ys) (y ∷ x ∷ ys) (y ∷ (ys ++ x ∷ [])) (equivalent_swap x y ys) (equivalent_cons y (x ∷ ys) (ys ++ x ∷ []) (last_equivalent x ys))

  -- another element's place once one is removed
  pub other_place : (l : List X) (i j : ℕ) (v u : X) → j ≢ i → get_elem? l i ≡ some v → get_elem? l j ≡ some u
      → (k : ℕ) × (get_elem? (without l j) k ≡ some v) × ((w : X) → without (set l i w) j ≡ set (without l j) k w)
  other_place [] i j v u apart e d = absurd (some-ne-none v (sym e))
  other_place (x ∷ xs) zero zero v u apart e d = absurd (apart refl)
  other_place (x ∷ xs) zero (suc j) v u apart e d = (0, e, λ w. refl)
  other_place (x ∷ xs) (suc i) zero v u apart e d = (i, e, λ w. refl)
  other_place (x ∷ xs) (suc i) (suc j) v u apart e d =
      let (k, at, is) = other_place xs i j v u (λ s. apart (ap suc s)) e d in (suc k, at, λ w. ap (λ l. x ∷ l) (is w))
