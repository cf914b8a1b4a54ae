use Rattle.std.proofs.Common.{◌≡◌, ℕ, ◌<◌, Some}
use Rattle.std.specs.List.{slice_get}
use Rattle.lit_paths.specs.declared.path.Tested.{Tested}
use Rattle.lit_why.specs.Refusal.{IsFalseIn}
use Rattle.lit_why.proofs.refusals.guards.false_among.Given as goal

abbrev pub invariant-loop-place : goal.invariant-loop-place
invariant-loop-place l = (k : ℕ) (guard : Tested) → k < l.place → slice_get l.guards k ≡ Some guard → IsFalseIn l.part l.first guard → ⊥
