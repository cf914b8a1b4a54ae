-- The registers that statements write, up to one.
use Rattle.std.proofs.Common.{◌≡◌, ℕ, ◌+◌, Bool, true, false, cond, List, [], ◌∷◌, ◌++◌, map, filter, refl, ap, sym, ◌∙◌, zero-add}
use Rattle.std.specs.List.{range_with_len}
use Rattle.std.proofs.lemmas.List.{map-append}
use Rattle.std.proofs.lemmas.List.Elements.{filter-append}
use Rattle.serde_json.specs.Data.{Data}
use Rattle.lit_paths.proofs.OutcomeRegisterSteps.{range_more}
use Rattle.lit_json.specs.StatementData.{count}

-- the numbers below one that are kept, as data
abbrev pub below : (ℕ → Bool) → ℕ → List Data
below keep k = map count (filter keep (range_with_len 0 k))

below_more : (keep : ℕ → Bool) (k : ℕ) → below keep (k + 1) ≡ below keep k ++ cond (keep k) (count k ∷ []) []
below_more keep k =
    let step : (b : Bool) → map count (cond b (k ∷ []) []) ≡ cond b (count k ∷ []) []
    = λ b. elim b as (λ v. map count (cond v (k ∷ []) []) ≡ cond v (count k ∷ []) []) [ true ↦ refl | false ↦ refl ] in
    ap (λ rs. map count (filter keep rs)) (range_more 0 k)
    ∙ ap (λ j. map count (filter keep (range_with_len 0 k ++ j ∷ []))) (zero-add k)
    ∙ ap (λ rs. map count rs) (filter-append keep (range_with_len 0 k) (k ∷ []))
    ∙ map-append count (filter keep (range_with_len 0 k)) (cond (keep k) (k ∷ []) [])
    ∙ ap (λ xs. below keep k ++ xs) (step (keep k))

pub below_step : (keep : ℕ → Bool) (k : ℕ) (b : Bool) (now new : List Data) → now ≡ below keep k → keep k ≡ b
    → new ≡ now ++ cond b (count k ∷ []) [] → new ≡ below keep (k + 1)
below_step keep k b now new is test pushed =
    pushed ∙ ap (λ xs. xs ++ cond b (count k ∷ []) []) is ∙ ap (λ c. below keep k ++ cond c (count k ∷ []) []) (sym test) ∙ sym (below_more keep k)
