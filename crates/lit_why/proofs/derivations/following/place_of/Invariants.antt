use Rattle.std.proofs.Common.{ℕ, ◌<◌}
use Rattle.lit_why.specs.Derivation.{IsLineOf}
use Rattle.lit_why.proofs.derivations.following.place_of.Given as goal

abbrev pub invariant-loop-place : goal.invariant-loop-place
invariant-loop-place l = (k : ℕ) → k < l.place → IsLineOf l.lines k l.before l.after → ⊥
