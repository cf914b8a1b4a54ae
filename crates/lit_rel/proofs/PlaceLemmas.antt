-- Places in lists after an append.
use Rattle.std.proofs.Common.{◌≡◌, ◌≢◌, ◌⊎◌, ℕ, ◌<◌, suc, zero, Some, List, [], ◌∷◌, ◌++◌, length, drop, refl, sym, ap, ◌∙◌, arith, inl, inr}
use Rattle.std.proofs.Math.ListN.{set, length-set}
use Rattle.std.proofs.lemmas.List.{take_at}
use Rattle.std.proofs.lemmas.Option.{none-some, same_Some, slice_get_within}
use Rattle.std.specs.List.{refill, slice_get}
use Rattle.lit_paths.proofs.Products.{slice_get_left, slice_get_right}

pub place-left : {X : Type 0} (xs ys : List X) (k : ℕ) (e : X) → slice_get xs k ≡ Some e → slice_get (xs ++ ys) k ≡ Some e
place-left xs ys k e h = slice_get_left xs ys k (slice_get_within xs k e h) ∙ h

pub place_from-left : {X : Type 0} (xs ys : List X) (k : ℕ) (e : X) → k < length xs → slice_get (xs ++ ys) k ≡ Some e → slice_get xs k ≡ Some e
place_from-left xs ys k e l h = sym (slice_get_left xs ys k l) ∙ h

pub place-middle : {X : Type 0} (xs ys : List X) (e : X) → slice_get (xs ++ e ∷ ys) (length xs) ≡ Some e
place-middle xs ys e = slice_get_right xs (e ∷ ys) (length xs) 0 (omega arith)

pub place-push : {X : Type 0} (xs : List X) (e : X) (k : ℕ) (d : X) → slice_get (xs ++ e ∷ []) k ≡ Some d → ((k < length xs) × (slice_get xs k ≡ Some d)) ⊎ ((k ≡ length xs) × (e ≡ d))
place-push [] e zero d h = inr (refl, same_Some e d h)
place-push [] e (suc k) d h = absurd (none-some d h)
place-push (x ∷ xs) e zero d h = inl (omega arith, h)
place-push (x ∷ xs) e (suc k) d h =
    elim (place-push xs e k d h) [
      | inl old ↦ inl (omega arith, old.1)
      | inr last ↦ inr (ap suc last.0, last.1)
    ]

-- after a write
pub place-set_same : {X : Type 0} (xs : List X) (i : ℕ) (e x : X) → slice_get xs i ≡ Some x → slice_get (set xs i e) i ≡ Some e
place-set_same [] i e x h = absurd (none-some x h)
place-set_same (y ∷ xs) zero e x h = refl
place-set_same (y ∷ xs) (suc i) e x h = place-set_same xs i e x h

pub place-set_other : {X : Type 0} (xs : List X) (i k : ℕ) (e : X) → k ≢ i → slice_get (set xs i e) k ≡ slice_get xs k
place-set_other [] i k e other = refl
place-set_other (y ∷ xs) zero zero e other = absurd (other refl)
place-set_other (y ∷ xs) zero (suc k) e other = refl
place-set_other (y ∷ xs) (suc i) zero e other = refl
place-set_other (y ∷ xs) (suc i) (suc k) e other = place-set_other xs i k e (λ h. other (ap suc h))

-- a list written over with one of its length
pub refill-set : {X : Type 0} (xs ys : List X) (i : ℕ) (e : X) → ys ≡ xs → refill (length xs) xs (set ys i e) ≡ set xs i e
refill-set xs ys i e same =
    let count : length (set ys i e) ≡ length xs = length-set ys i e ∙ ap length same in
    take_at (set ys i e) (drop (length (set ys i e)) xs) (length xs) count ∙ ap (λ zs. set zs i e) same
