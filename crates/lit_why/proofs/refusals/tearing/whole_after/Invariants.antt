use Rattle.std.proofs.Common.{ℕ, ◌<◌}
use Rattle.lit_rel.specs.Rows.{Holds}
use Rattle.lit_why.specs.Internal.Refusing.{IsWholeBy}
use Rattle.lit_why.proofs.refusals.tearing.whole_after.Given as goal

abbrev pub invariant-loop-other : goal.invariant-loop-other
invariant-loop-other l = (v : ℕ) → l.source < v → v < l.other → IsWholeBy l.events (Holds l.reads) l.read v → ⊥
