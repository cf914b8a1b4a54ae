-- What a draw at the desk does to the place that draws, and what the report at the end says.
use Rattle.std.proofs.Common.{◌≡◌, ◌≤◌, ◌⊎◌, inl, inr, ℕ, List, [], ◌∷◌, ◌++◌, Result, Ok, Err, IfOk, OnOk, sym, ap, subst, ◌∙◌}
use Rattle.std.specs.Result.{IsErrAnd, MatchResult}
use Rattle.lit_desk.specs.Desk.{PlaceLists, draws_of, told_by, seen_by, with_ticket}
use Rattle.lit_share.specs.Drawn.{since, DrewOn, OnlyDrew}
use Rattle.lit_share.proofs.Places.{told_ticket, seen_ticket}
use Rattle.lit_share.proofs.Rising.{grown_more}

-- the draws since an earlier moment go on by the number that is drawn
pub drew_more : (start old new : PlaceLists) (n : ℕ) → draws_of new ≡ draws_of old ++ n ∷ [] → DrewOn start old → DrewOn start new
drew_more start old new n joins drew =
    subst (λ (xs : List ℕ). xs ≡ draws_of start ++ since (draws_of start) xs) (sym joins)
    (grown_more (draws_of start) (draws_of old) (n ∷ []) drew)

-- and stay where none is left
pub drew_late : (start old new : PlaceLists) → draws_of new ≡ draws_of old → DrewOn start old → DrewOn start new
drew_late start old new same drew = subst (λ (xs : List ℕ). xs ≡ draws_of start ++ since (draws_of start) xs) (sym same) drew

-- a draw tells nothing and sees nothing
pub only_more : (start old new : PlaceLists) (n : ℕ) → new ≡ with_ticket old n → OnlyDrew start old → OnlyDrew start new
only_more start old new n taken only = record {
  told = λ class. ap (told_by class) taken ∙ told_ticket class old n ∙ only.told class;
  seen = λ class. ap (seen_by class) taken ∙ seen_ticket class old n ∙ only.seen class;
}

pub only_late : (start old new : PlaceLists) (least : ℕ) → (new ≡ old) ⊎ ((n : ℕ) × (least ≤ n) × (new ≡ with_ticket old n))
    → OnlyDrew start old → OnlyDrew start new
only_late start old new least (inl same) only = subst (OnlyDrew start) (sym same) only
only_late start old new least (inr (n, late, taken)) only = only_more start old new n taken only

-- what holds anyhow holds of what was found
pub on_ok : {X E : Type 0} (r : Result X E) (A : Type 0) → A → OnOk r A
on_ok (Ok x) A holds = holds
on_ok (Err e) A holds = tt

-- what is found holds what is so of that which was to be found, whatever becomes of the fault
pub found_so : {X E F : Type 0} (r : Result X E) (s : Result X F) (P : X → Type 0) (Q : E → F → Type 0) (x : X)
    → MatchResult r (λ y. s ≡ Ok y) (λ e. IsErrAnd s (Q e))
    → IfOk r (λ y. y ≡ x) → P x → IfOk s P
found_so (Ok y) s P Q x is same holds = subst (λ (u : Result _ _). IfOk u P) (sym is) (subst P (sym same) holds)
found_so (Err e) (Ok y) P Q x is same holds = elim is [ ]
found_so (Err e) (Err f) P Q x is same holds = tt
