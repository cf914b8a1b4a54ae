use Rattle.std.proofs.Common.{ℕ, ◌<◌}
use Rattle.lit_solve.specs.Box.{box_with}
use Rattle.lit_why.specs.Internal.Relations.{IsCoherentAt}
use Rattle.lit_why.proofs.cases.refuting.incoherent_given.Given as goal

abbrev pub invariant-loop-place : goal.invariant-loop-place
invariant-loop-place l = (k : ℕ) → k < l.place → IsCoherentAt (box_with l.problem l.domains) k
