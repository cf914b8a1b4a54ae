-- How many numbers below n a list has.
use Rattle.std.proofs.Common.{◌≡◌, ℕ, ◌<◌, ◌≤◌, suc, zero, Some, List, ◌∷◌, length, get_or, refl, sym, ap, ◌∙◌, subst, arith, inl, inr, true, eqb, eqb-true}
use Rattle.std.proofs.lemmas.Bool.{cases_Bool, false≢true}
use Rattle.std.proofs.lemmas.Bool.Decides.{Decides-eqb}
use Rattle.std.proofs.lemmas.Cmp.{nat_eq_equiv}
use Rattle.std.proofs.lemmas.Option.{same_Some, slice_get_within, slice_get-get_or, get_or_from_slice_get}
use Rattle.std.proofs.lemmas.Map.Made.{IsDistinct-from_AllPairs}
use Rattle.std.proofs.lemmas.Map.Steps.{length-le_from_distinct_below, le-length_from_below}
use Rattle.std.proofs.lemmas.Map.Views.{list_any-from_Contains, Contains-from_any}
use Rattle.std.specs.List.{slice_get, list_any, Contains}
use Rattle.lit_order.specs.Internal.Beginning.{Stands}

-- the words of std's lemmas on how many numbers a list has
pub any_from_place : (xs : List ℕ) (k e : ℕ) → slice_get xs k ≡ Some e → list_any (eqb e) xs ≡ true
any_from_place xs k e h = list_any-from_Contains nat_eq_equiv e xs (k, slice_get_within xs k e h, get_or_from_slice_get xs k e e h)

pub place_from_any : (xs : List ℕ) (e : ℕ) → list_any (eqb e) xs ≡ true → Stands xs e
place_from_any xs e h =
    let found : Contains xs e = Contains-from_any eqb-true e xs h in
    record { place = found.0; at_place = slice_get-get_or xs found.0 e found.1 ∙ ap Some found.2 }

-- each number has at most one place
abbrev pub IsOnce : List ℕ → Type 0
IsOnce xs = (k l e : ℕ) → slice_get xs k ≡ Some e → slice_get xs l ≡ Some e → k ≡ l

pub length_from_once : (xs : List ℕ) (n : ℕ) → ((k e : ℕ) → slice_get xs k ≡ Some e → e < n) → IsOnce xs → length xs ≤ n
length_from_once xs n only once =
    length-le_from_distinct_below xs n
    (IsDistinct-from_AllPairs Decides-eqb xs
    (λ i j d l h same.
    let e = once i j (get_or xs i d) (slice_get-get_or xs i d (omega arith)) (slice_get-get_or xs j d h ∙ ap Some (sym same)) in
    absurd (omega arith)))
    (λ q h. let s = place_from_any xs q h in only s.place q s.at_place)

pub length_from_all : (xs : List ℕ) (n : ℕ) → ((e : ℕ) → e < n → Stands xs e) → n ≤ length xs
length_from_all xs n all = le-length_from_below xs n (λ q h. let s = all q h in any_from_place xs s.place q s.at_place)

-- a list of n numbers below n, each once, has them all
pub all_from_length : (xs : List ℕ) (n : ℕ) → ((k e : ℕ) → slice_get xs k ≡ Some e → e < n) → IsOnce xs → length xs ≡ n → (e : ℕ) → e < n → Stands xs e
all_from_length xs n only once is e h =
    elim (cases_Bool (list_any (eqb e) xs)) [
      | inl found ↦ place_from_any xs e found
      | inr missing ↦
          let absent : (k : ℕ) → slice_get xs k ≡ Some e → ⊥ = λ k at_k. false≢true (sym missing ∙ any_from_place xs k e at_k) in
          let longer : length (e ∷ xs) ≤ n =
          length_from_once (e ∷ xs) n (only_cons xs n e h only) (once_cons xs e absent once) in
          absurd (omega arith)
    ]
  where
    only_cons : (xs : List ℕ) (n e : ℕ) → e < n → ((k d : ℕ) → slice_get xs k ≡ Some d → d < n) → (k d : ℕ) → slice_get (e ∷ xs) k ≡ Some d → d < n
    only_cons xs n e h only zero d at_k = subst (λ (x : ℕ). x < n) (same_Some e d at_k) h
    only_cons xs n e h only (suc k) d at_k = only k d at_k

    once_cons : (xs : List ℕ) (e : ℕ) → ((k : ℕ) → slice_get xs k ≡ Some e → ⊥) → IsOnce xs → IsOnce (e ∷ xs)
    once_cons xs e absent once zero zero d hk hl = refl
    once_cons xs e absent once zero (suc l) d hk hl = absurd (absent l (hl ∙ ap Some (sym (same_Some e d hk))))
    once_cons xs e absent once (suc k) zero d hk hl = absurd (absent k (hk ∙ ap Some (sym (same_Some e d hl))))
    once_cons xs e absent once (suc k) (suc l) d hk hl = ap suc (once k l d hk hl)
