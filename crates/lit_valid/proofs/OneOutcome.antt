-- A choice has one outcome at most.
use Rattle.std.proofs.Common.{◌≡◌, ◌⊎◌, inl, inr, ℕ, zero, suc, ◌+◌, ◌<◌, ◌≤◌, Some, List, [], length, refl, sym, ap, subst, ◌∙◌, arith}
use Rattle.std.proofs.lemmas.Bool.{cases_lt}
use Rattle.std.specs.List.{flat_map}
use Rattle.std.proofs.lemmas.List.{take_all}
use Rattle.std.proofs.lemmas.Option.{slice_get_within}
use Rattle.lit_syntax.specs.Syntax.{IsLitmus, Litmus}
use Rattle.lit_paths.specs.Choice.{Choice, choices_of, choices_on, combinations_of}
use Rattle.lit_paths.specs.Execution.{execution_choice}
use Rattle.lit_paths.specs.Path.{Path}
use Rattle.lit_paths.specs.Plan.{choices_before}
use Rattle.lit_paths.proofs.OutcomeRegisterSteps.{names_from-within}
use Rattle.lit_rel.specs.Part.{PartModel, with_sources}
use Rattle.lit_valid.specs.Completion.{Completes, IsOnCombination}
use Rattle.lit_valid.specs.Gives.{Gives}
use Rattle.lit_valid.specs.PartOutcome.{part_outcome}
use Rattle.lit_valid.specs.Laws.{Laws}
use Rattle.lit_valid.proofs.CompletionLemmas.{its_outcome}

-- where a number stands among others that begin at 0
stands : (f : ℕ → ℕ) (k n : ℕ) → f 0 ≤ n → n < f k → (c : ℕ) × (c < k) × (f c ≤ n) × (n < f (c + 1))
stands f zero n low high = absurd (omega (arith, low, high))
stands f (suc k) n low high = by (cases_lt n (f k)) (stands f k n low)
  where
    by : (n < f k) ⊎ (f k ≤ n) → (n < f k → (c : ℕ) × (c < k) × (f c ≤ n) × (n < f (c + 1))) → (c : ℕ) × (c < suc k) × (f c ≤ n) × (n < f (c + 1))
    by (inl less) earlier = let s = earlier less in (s.0, omega (arith, s.1), s.2, s.3)
    by (inr most) earlier = (k, omega arith, most, subst (λ (m : ℕ). n < f m) (let e : suc k ≡ k + 1 = omega arith in e) high)

all_before : (t : Litmus) → choices_before t (length (combinations_of t)) ≡ length (choices_of t)
unfolding choices_of
all_before t =
    ap (λ (cs : List (List Path)). length (flat_map (choices_on t.bytes) cs))
    (take_all (length (combinations_of t)) (combinations_of t) (omega arith))

-- the choice's combination, without sources
abbrev start : Litmus → ℕ → PartModel
start t c = record { test = t; combination = c; sources = [] }

pub one_outcome : Laws → (t : Litmus) (n : ℕ) (some other : List ℕ) → IsLitmus t → Gives t n some → Gives t n other → some ≡ other
one_outcome laws t n some other litmus g h =
    let inside : n < length (choices_of t) = slice_get_within (choices_of t) n (execution_choice g.execution) g.chosen in
    let at = stands (choices_before t) (length (combinations_of t)) n (omega arith) (omega (arith, inside, all_before t)) in
    let c = at.0 in
    let of = laws.placed t n c at.1 at.2 at.3 in
    let entered : IsOnCombination (start t c) = record { litmus = litmus; known = at.1 } in
    let first : Completes (start t c)
    g.execution = record {
      valid = g.valid;
      on_paths = of.on_paths g.execution g.valid.candidate g.chosen;
      rest = g.execution.sources;
      begun = refl;
    } in
    let second : Completes (start t c)
    h.execution = record {
      valid = h.valid;
      on_paths = of.on_paths h.execution h.valid.candidate h.chosen;
      rest = h.execution.sources;
      begun = refl;
    } in
    let same : execution_choice g.execution ≡ execution_choice h.execution = let e : Some (execution_choice g.execution) ≡ Some
    (execution_choice h.execution) = sym g.chosen ∙ h.chosen in cc in
    let sources : g.execution.sources ≡ h.execution.sources = ap (λ (ch : Choice). ch.sources) same in
    sym g.result
    ∙ its_outcome (start t c) g.execution first laws entered (names_from-within t.agents)
    ∙ ap (λ (ws : List ℕ). part_outcome (with_sources (start t c) ws)) sources
    ∙ sym (its_outcome (start t c) h.execution second laws entered (names_from-within t.agents))
    ∙ h.result
