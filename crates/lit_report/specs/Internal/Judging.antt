-- Whether outcomes meet the condition.
use Rattle.std.specs.Prelude.{◌≡◌, ◌<◌, ℕ, Bool}
use Rattle.lit_syntax.specs.Syntax.{Litmus}
use Rattle.lit_paths.specs.Outcome.{meets}
use Rattle.lit_search.specs.Report.{Report, entry_at}

-- whether the outcome at a place meets the condition
abbrev pub met_at : Litmus → Report → ℕ → Bool
met_at t report i = meets t (entry_at report i).outcome

-- each of the first n outcomes answers so
abbrev pub AllAnswer : Litmus → Report → ℕ → Bool → Type 0
AllAnswer t report n b = (i : ℕ) → i < n → met_at t report i ≡ b

-- one of the first n outcomes answers so
abbrev pub SomeAnswers : Litmus → Report → ℕ → Bool → Type 0
SomeAnswers t report n b = (i : ℕ) × (i < n) × (met_at t report i ≡ b)
