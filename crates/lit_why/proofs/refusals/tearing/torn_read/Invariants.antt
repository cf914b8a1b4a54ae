use Rattle.std.proofs.Common.{ℕ, ◌<◌}
use Rattle.lit_rel.specs.Rows.{Holds}
use Rattle.lit_why.specs.Internal.Refusing.{AreTorn}
use Rattle.lit_why.proofs.refusals.tearing.torn_read.Given as goal

abbrev pub invariant-loop-source : goal.invariant-loop-source
invariant-loop-source l = (w : ℕ) → w < l.source → (v : ℕ) → AreTorn l.events (Holds l.reads) l.read w v → ⊥
