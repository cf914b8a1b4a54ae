-- Data races of one event with those of greater numbers.
use Rattle.std.specs.Prelude.{ℕ, ◌<◌}

-- the least event after the first that races with it
pub record IsLeastAfter (races : ℕ → Type 0) (first second : ℕ) : Type 0 where
  pub after : first < second
  pub is_race : races second
  pub least : (d : ℕ) → first < d → d < second → ¬ races d
