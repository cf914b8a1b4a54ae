-- Greedy descent by least sources: which solutions it leaves behind.
use Rattle.std.specs.Prelude.{◌≡◌, ◌⊎◌, ℕ, ◌<◌, List, Some, slice_get}
use Rattle.std.specs.Cmp.Lexicographic.{slice_cmp}
use Rattle.std.specs.Ordering.{nat_cmp}
use Rattle.std.specs.declared.cmp.Ordering.TheVariants.{Less}
use Rattle.lit_paths.specs.Execution.{Execution}
use Rattle.lit_solve.specs.declared.goal.Goal.{Goal}
use Rattle.lit_solve.specs.Box.{Box, IsWithin}
use Rattle.lit_solve.specs.Completion.{IsCompletion, IsSolution}
use Rattle.lit_solve.specs.Fill.{AreSourcesIn}
use Rattle.lit_solve.specs.Given.{HasAlone}

-- the domain of each byte read before the n-th has one source
abbrev pub AreAloneBelow : Box → ℕ → Type 0
AreAloneBelow box n = (k : ℕ) → k < n → (w : ℕ) × HasAlone box k w

-- the execution has a greater source for the k-th byte read than the only one in the domain there
pub record IsNotLeastAt (box : Box) (k : ℕ) (x : Execution) : Type 0 where
  pub source : ℕ
  pub taken : ℕ
  pub alone : HasAlone box k source
  pub takes : slice_get x.sources k ≡ Some taken
  pub greater : source < taken

-- a box within another that retains each solution, except those with a greater source for the k-th byte read
pub record IsLowestAt (old : Box) (goal : Goal) (k : ℕ) (new : Box) : Type 0 where
  pub within : IsWithin new old
  pub not_least : (x : Execution) → IsSolution old goal x → IsCompletion new x ⊎ IsNotLeastAt new k x

-- a box within another that retains each solution, except those whose sources are greater than all that lie in it
pub record IsLowest (old : Box) (goal : Goal) (new : Box) : Type 0 where
  pub within : IsWithin new old
  pub not_least : (x : Execution) → IsSolution old goal x → IsCompletion new x
      ⊎ ((sources : List ℕ) → AreSourcesIn new sources → slice_cmp nat_cmp sources x.sources ≡ Less)
