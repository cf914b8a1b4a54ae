use Rattle.std.proofs.Common.{ℕ, ◌<◌}
use Rattle.lit_rel.specs.Rows.{Holds}
use Rattle.lit_why.specs.Internal.Refusing.{AreTorn}
use Rattle.lit_why.proofs.refusals.tearing.first_torn.Given as goal

abbrev pub invariant-loop-read : goal.invariant-loop-read
invariant-loop-read l = (r : ℕ) → r < l.read → (w v : ℕ) → AreTorn l.events (Holds l.reads) r w v → ⊥
