use Rattle.std.proofs.Common.{◌≡◌, ◌<◌, ℕ, Some}
use Rattle.std.specs.List.{slice_get}
use Rattle.lit_rel.specs.declared.between.Pair.{Pair}
use Rattle.lit_rel.specs.Between.{IsPairOf}
use Rattle.lit_rel.proofs.between.place_of.Given as goal

abbrev pub invariant-loop-place : goal.invariant-loop-place
invariant-loop-place l = (k : ℕ) → k < l.place → (p : Pair) → slice_get l.pairs k ≡ Some p → IsPairOf l.source l.read p → ⊥
