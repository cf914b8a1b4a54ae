-- The registers of an outcome, agent by agent and name by name.
use Rattle.std.proofs.Common.{zip, ◌==◌, ◌&&◌, ◌≡◌, ℕ, zero, suc, ◌+◌, ◌<◌, ◌≤◌, List, [], ◌∷◌, ◌++◌, length, map, filter, drop, get_or, arith, refl, sym, ap, ◌∙◌, append_assoc, map-id, zero-add, Bool, true, false, cond}
use Rattle.std.specs.Prelude.{All}
use Rattle.std.specs.List.{range_with_len, AllByRecursion}
use Rattle.lit_syntax.specs.declared.limits.TheConstants.{REGISTERS}
use Rattle.std.proofs.lemmas.List.{drop_more, drop_all, map-append}
use Rattle.std.proofs.lemmas.Slice.Zip.{length-zip, get_or-zip}
use Rattle.std.proofs.lemmas.List.Elements.{filter-append, All-from_recursion}
use Rattle.std.proofs.lemmas.List.FromFn.{map-range_with_len_more}
use Rattle.lit_syntax.specs.Syntax.{Agent, Statements, writes}
use Rattle.lit_paths.specs.Outcome.{names_in, names_from, value_in}
use Rattle.lit_syntax.proofs.ListLemmas.{all_both}

pub range_more : (a n : ℕ) → range_with_len a (n + 1) ≡ range_with_len a n ++ (a + n) ∷ []
range_more a n =
    sym (map-id (range_with_len a (n + 1))) ∙ map-range_with_len_more (λ x. x) a n (a + n) refl ∙ ap (λ xs. xs ++ (a + n) ∷ []) (map-id (range_with_len a n))

-- a register of the agent with number n
abbrev pub named : ℕ → ℕ → ℕ × ℕ
named n reg = (n, reg)

-- the names of one agent, from the registers below k
abbrev pub names_below : ℕ → (ℕ → Bool) → ℕ → List (ℕ × ℕ)
names_below n p k = map (named n) (filter p (range_with_len 0 k))

pub names_below_more : (n : ℕ) (p : ℕ → Bool) (k : ℕ) → names_below n p (k + 1) ≡ names_below n p k ++ cond (p k) ((n, k) ∷ []) []
names_below_more n p k =
    let step : (b : Bool) → map (named n) (cond b (k ∷ []) []) ≡ cond b ((n, k) ∷ []) []
    = λ b. elim b as (λ v. map (named n) (cond v (k ∷ []) []) ≡ cond v ((n, k) ∷ []) []) [ true ↦ refl | false ↦ refl ] in
    ap (λ rs. map (named n) (filter p rs)) (range_more 0 k)
    ∙ ap (λ j. map (named n) (filter p (range_with_len 0 k ++ j ∷ []))) (zero-add k)
    ∙ ap (λ rs. map (named n) rs) (filter-append p (range_with_len 0 k) (k ∷ []))
    ∙ map-append (named n) (filter p (range_with_len 0 k)) (cond (p k) (k ∷ []) [])
    ∙ ap (λ xs. names_below n p k ++ xs) (step (p k))

pub names_step : (n : ℕ) (p : ℕ → Bool) (k : ℕ) (b : Bool) (old now new : List (ℕ × ℕ)) → now ≡ old ++ names_below n p k → p k ≡ b → new ≡ now ++ cond b ((n, k) ∷ []) []
    → new ≡ old ++ names_below n p (k + 1)
names_step n p k b old now new is test pushed =
    pushed ∙ ap (λ xs. xs ++ cond b ((n, k) ∷ []) []) is ∙ append_assoc old (names_below n p k) (cond b ((n, k) ∷ []) [])
    ∙ ap (λ c. old ++ (names_below n p k ++ cond c ((n, k) ∷ []) [])) (sym test)
    ∙ ap (λ xs. old ++ xs) (sym (names_below_more n p k))

-- what a register has in an outcome, name by name
pub value_in_more : (names : List (ℕ × ℕ)) (outcome : List ℕ) (k agent reg : ℕ) → k < length names → length outcome ≡ length names
    → value_in (drop k (zip names outcome)) agent reg
    ≡ cond (((get_or names k (0, 0)).0 == agent) && ((get_or names k (0, 0)).1 == reg)) (get_or outcome k 0) (value_in (drop (k + 1) (zip names outcome)) agent reg)
value_in_more names outcome k agent reg inside same =
    let within : k < length outcome = omega (arith, inside, same) in
    let long : k < length (zip names outcome) = omega (arith, length-zip names outcome, inside, within) in
    ap (λ ps. value_in ps agent reg) (drop_more (zip names outcome) k ((0, 0), 0) long)
    ∙ ap (λ (p : (ℕ × ℕ) × ℕ). value_in (p ∷ drop (k + 1) (zip names outcome)) agent reg) (get_or-zip names outcome k ((0, 0), 0) inside within)

pub value_in_end : (names : List (ℕ × ℕ)) (outcome : List ℕ) (k agent reg : ℕ) → length names ≤ k → length outcome ≡ length names
    → value_in (drop k (zip names outcome)) agent reg ≡ 0
value_in_end names outcome k agent reg past same =
    ap (λ ps. value_in ps agent reg) (drop_all k (zip names outcome) (omega (arith, length-zip names outcome, past, same)))

-- ---- the registers are those of agents
-- a register that an outcome names
abbrev pub IsWithin : ℕ → ℕ × ℕ → Type 0
IsWithin agents name = (name.0 < agents) × (name.1 < REGISTERS)

in_agent : (n agents : ℕ) (body : Statements) (low count : ℕ) → n < agents → low + count ≤ REGISTERS → AllByRecursion (IsWithin agents) (map (λ reg. (n, reg)) (filter (writes body) (range_with_len low count)))
in_agent n agents body low zero lt le = tt
in_agent n agents body low (suc count) lt le = by (writes body low) (in_agent n agents body (low + 1) count lt (omega arith))
  where
    by : (b : Bool) → AllByRecursion (IsWithin agents) (map (λ reg. (n, reg)) (filter (writes body) (range_with_len (low + 1) count))) → AllByRecursion (IsWithin agents) (map (λ reg. (n, reg)) (cond b (low ∷ filter (writes body) (range_with_len (low + 1) count)) (filter (writes body) (range_with_len (low + 1) count))))
    by true h = ((lt, omega arith), h)
    by false h = h

within : (n limit : ℕ) (agents : List Agent) → n + length agents ≤ limit → AllByRecursion (IsWithin limit) (names_from n agents)
within n limit [] le = tt
within n limit (a ∷ agents) le = all_both (IsWithin limit) (names_in n a) (names_from (n + 1) agents) (in_agent n limit a.body 0 REGISTERS (omega arith) (omega arith)) (within (n + 1) limit agents (omega arith))

pub names_from-within : (agents : List Agent) → All (IsWithin (length agents)) (names_from 0 agents)
names_from-within agents = All-from_recursion (IsWithin (length agents)) (names_from 0 agents) (within 0 (length agents) agents (omega arith))
