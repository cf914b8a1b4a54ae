-- Pruning a box: it retains all completions.
use Rattle.std.specs.Prelude.{ℕ, List, map, sum}
use Rattle.lit_paths.specs.Execution.{Execution}
use Rattle.lit_rel.specs.declared.event_set.EventSet.{EventSet}
use Rattle.lit_solve.specs.Box.{Box, IsWithin}
use Rattle.lit_solve.specs.Completion.{IsCompletion}

-- `new` is within `old`, and has all completions of `old`
pub record Prunes (old new : Box) : Type 0 where
  pub within : IsWithin new old
  pub retained : (x : Execution) → IsCompletion old x → IsCompletion new x

-- the box is infeasible
abbrev pub HasNoCompletion : Box → Type 0
HasNoCompletion box = (x : Execution) → ¬ IsCompletion box x

-- a measure of domains: it decreases with each source that is removed
abbrev pub size_of : List EventSet → ℕ
size_of domains = sum (map (λ set. set.bits) domains)
