-- What holds of each of the first elements of a list.
use Rattle.std.proofs.Common.{◌≡◌, ℕ, ◌+◌, ◌<◌, Some, List, length, get_or, sym, ◌∙◌, arith, inl, inr}
use Rattle.std.proofs.lemmas.Bool.{cases_eq}
use Rattle.std.proofs.lemmas.Option.{same_Some, slice_get-get_or}
use Rattle.std.specs.List.{slice_get}

abbrev pub EachBelow : {X : Type 0} → (X → Type 0) → List X → ℕ → Type 0
EachBelow {X} P xs n = (k : ℕ) (p : X) → k < n → slice_get xs k ≡ Some p → P p

pub EachBelow-more : {X : Type 0} (P : X → Type 0) (xs : List X) (i : ℕ) (d : X) → i < length xs → EachBelow P xs i → P (get_or xs i d) → EachBelow P xs (i + 1)
EachBelow-more P xs i d l each here k p h at =
    elim (cases_eq k i) [
      | inl same ↦ rw (← same_Some (get_or xs i d) p (sym (slice_get-get_or xs i d l) ∙ rw same at at)) here
      | inr other ↦ each k p (omega arith) at
    ]
