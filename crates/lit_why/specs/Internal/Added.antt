-- How a list of attempts grows.
use Rattle.std.specs.Prelude.{◌≡◌, ◌⊎◌, ℕ, ◌≤◌, List, ◌++◌, Some, length, slice_get}
use Rattle.lit_syntax.specs.Syntax.{Litmus}
use Rattle.lit_why.specs.declared.attempt.Attempt.{Attempt}
use Rattle.lit_why.specs.Attempts.{AreBefore, AreRising, HasAttempt, HasSoMany}

-- a list grows by attempts, each with its count of choices, at the first choices of which this holds, until it is as long as it may be
pub record Adds (t : Litmus) (most : ℕ) (holds : ℕ → Type 0) (old new : List Attempt) : Type 0 where
  pub added : List Attempt
  pub goes_on : new ≡ old ++ added
  pub few : length new ≤ most
  pub each : (i : ℕ) (a : Attempt) → slice_get added i ≡ Some a → holds a.choice × HasSoMany t a.choice a.choices
  pub rising : AreRising added
  pub whole : (n : ℕ) → holds n → HasAttempt added n ⊎ ((length new ≡ most) × AreBefore added n)
