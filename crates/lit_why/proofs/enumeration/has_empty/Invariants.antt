use Rattle.std.proofs.Common.{◌<◌, ℕ}
use Rattle.lit_solve.specs.Box.{HasSource, box_with}
use Rattle.lit_why.proofs.enumeration.has_empty.Given as goal

abbrev pub invariant-loop-place : goal.invariant-loop-place
invariant-loop-place l = (k : ℕ) → k < l.place → ((w : ℕ) → ¬ HasSource (box_with l.problem l.domains) k w) → ⊥
