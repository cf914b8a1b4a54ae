use Rattle.std.proofs.Common.{ℕ, ◌<◌}
use Rattle.lit_rel.specs.EventSet.{HasEvent}
use Rattle.lit_rel.specs.Rows.{Holds}
use Rattle.lit_why.proofs.derivations.following.before_source.Given as goal

abbrev pub invariant-loop-other : goal.invariant-loop-other
invariant-loop-other l = (v : ℕ) → v < l.other → HasEvent l.pair.others v → Holds l.old v l.pair.read → Holds l.known v l.pair.source
