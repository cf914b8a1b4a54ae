-- Places in lists.
use Rattle.std.proofs.Common.{◌≡◌, ◌==◌, ℕ, suc, Bool, true, ◌||◌, Some, List, [], ◌∷◌, sym, ap, ◌∙◌, eqb-true, inl, inr}
use Rattle.std.proofs.lemmas.Bool.{cases_Bool, false≢true}
use Rattle.std.specs.List.{list_any, slice_get}

-- a number that some member is has a place
pub place_of_any : (xs : List ℕ) (x : ℕ) → list_any (λ y. y == x) xs ≡ true → (k : ℕ) × (slice_get xs k ≡ Some x)
place_of_any [] x h = absurd (false≢true h)
place_of_any (y ∷ xs) x h =
    elim (cases_Bool (y == x)) [
      | inl same ↦ (0, ap Some (eqb-true y x same))
      | inr other ↦
          let rest = place_of_any xs x (sym (ap (λ (b : Bool). b || list_any (λ y. y == x) xs) other) ∙ h) in
          (suc rest.0, rest.1)
    ]
