-- Lists of numbers in their order: the first place where they differ decides.
use Rattle.lit_solve.proofs.Words.{[], ⊎_elim, ◌<◌, ◌∙◌, ◌∷◌, ◌≡◌, ◌≢◌, ◌≤◌, ap, ap₂, arith, cases_eq, cases_lt, cases_order, Equal, get_or}
use Rattle.lit_solve.proofs.Words.{Greater, IsGreaterAt, le-ltb, length, Less, List, nat_cmp, nat_cmp-less, nat_cmp-same, ne_eqb, Ordering}
use Rattle.lit_solve.proofs.Words.{ordering_then, slice_cmp, suc, sym, zero, ℕ}

pub less_from_place : (a b : List ℕ) (place : ℕ) → length a ≡ length b → place < length a → IsGreaterAt a place b → slice_cmp nat_cmp a b ≡ Less
less_from_place [] b place long within is = absurd (omega (arith, within))
less_from_place (x ∷ xs) [] place long within is = absurd (omega (arith, long))
less_from_place (x ∷ xs) (y ∷ ys) zero long within is =
    ap (λ (o : Ordering). ordering_then o (slice_cmp nat_cmp xs ys)) (nat_cmp-less x y (is.greater within))
less_from_place (x ∷ xs) (y ∷ ys) (suc place) long within is =
    ap₂ (λ (o p : Ordering). ordering_then o p)
    (ap (λ (z : ℕ). nat_cmp x z) (is.same 0 (omega arith)) ∙ nat_cmp-same x)
    (less_from_place xs ys place (omega (arith, long)) (omega (arith, within)) (record {
      same = λ k less. is.same (suc k) (omega (arith, less));
      greater = λ inside. is.greater (omega (arith, inside));
    }))

pub place_of_less : (a b : List ℕ) → length a ≡ length b → slice_cmp nat_cmp a b ≡ Less → (place : ℕ) × (place < length a) × IsGreaterAt a place b
place_of_less [] [] long less = cc
place_of_less [] (y ∷ ys) long less = absurd (omega (arith, long))
place_of_less (x ∷ xs) [] long less = absurd (omega (arith, long))
place_of_less (x ∷ xs) (y ∷ ys) long less =
    ⊎_elim
    (λ same.
    let first : nat_cmp x y ≡ Equal = ap (λ (z : ℕ). nat_cmp x z) (sym same) ∙ nat_cmp-same x in
    let rest : slice_cmp nat_cmp xs ys ≡ Less = sym (ap (λ (o : Ordering). ordering_then o (slice_cmp nat_cmp xs ys)) first) ∙ less in
    let later = place_of_less xs ys (omega (arith, long)) rest in
    let before : (k : ℕ) → k < suc later.0 → get_or (y ∷ ys) k 0 ≡ get_or (x ∷ xs) k 0 = λ k. elim k as (λ k. k < suc later.0 → get_or (y ∷ ys) k 0 ≡ get_or (x ∷ xs) k 0) [
      | zero ↦ λ _. sym same
      | suc k ↦ λ inside. later.2.same k (omega (arith, inside))
    ] in
    (suc later.0, omega (arith, later.1), record { same = before; greater = λ inside. later.2.greater (omega (arith, inside)) }))
    (λ apart. ⊎_elim
    (λ below. (0, omega arith, record { same = λ k inside. absurd (omega (arith, inside)); greater = λ _. below }))
    (λ over.
    let first : nat_cmp x y ≡ Greater = grind (arith, le-ltb, ne_eqb) in
    let clash : Greater ≡ Less = sym (ap (λ (o : Ordering). ordering_then o (slice_cmp nat_cmp xs ys)) first) ∙ less in
    cc)
    apart)
    (cases_order x y)

-- of two lists of as many numbers not each is less than the other
pub never_both_less : (a b : List ℕ) → length a ≡ length b → slice_cmp nat_cmp a b ≡ Less → slice_cmp nat_cmp b a ≡ Less → ⊥
never_both_less a b long less back = grind (arith, cases_eq, cases_lt, place_of_less)

-- nor is a list less than another that is no greater where they differ first
pub not_less_at : (y x : List ℕ) → length y ≡ length x
    → ((k : ℕ) → k < length y → ((j : ℕ) → j < k → get_or y j 0 ≡ get_or x j 0) → get_or x k 0 ≤ get_or y k 0) → slice_cmp nat_cmp y x ≢ Less
not_less_at y x long most less =
    let found = place_of_less y x long less in
    let over = found.2.greater found.1 in
    let at = most found.0 found.1 (λ j before. sym (found.2.same j before)) in
    omega (arith, over, at)
