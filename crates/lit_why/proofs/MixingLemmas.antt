-- The execution to show, combination after combination.
use Rattle.std.proofs.Common.{inl, inr, ℕ, ◌+◌, ◌<◌, ◌≤◌, length, subst, arith}
use Rattle.std.proofs.lemmas.Bool.{cases_lt}
use Rattle.lit_syntax.specs.Syntax.{Litmus}
use Rattle.lit_paths.specs.Choice.{combinations_of}
use Rattle.lit_solve.specs.declared.goal.Goal.{Goal}
use Rattle.lit_why.specs.LeastMixing.{HasNoneOn}

-- no valid execution on the first combinations meets the goal
abbrev pub HasNoneBefore : Litmus → Goal → ℕ → Type 0
HasNoneBefore t goal c = (d : ℕ) → d < c → HasNoneOn t goal d

pub none_more : (t : Litmus) (goal : Goal) (c : ℕ) → HasNoneBefore t goal c → HasNoneOn t goal c → HasNoneBefore t goal (c + 1)
none_more t goal c before here d less =
    elim (cases_lt d c) [ inl earlier ↦ before d earlier | inr last ↦ subst (λ (e : ℕ). HasNoneOn t goal e) (omega (arith, less, last)) here ]

pub none_at_all : (t : Litmus) (goal : Goal) (c : ℕ) → length (combinations_of t) ≤ c → HasNoneBefore t goal c → (d : ℕ) → HasNoneOn t goal d
none_at_all t goal c past before d sources g = before d (omega (arith, past, g.known)) sources g
