use Rattle.std.proofs.Common.{ℕ, ◌<◌}
use Rattle.lit_rel.specs.Coherent.{Hides}
use Rattle.lit_rel.specs.Rows.{Holds}
use Rattle.lit_why.proofs.refusals.incoherence.hiding.Given as goal

abbrev pub invariant-loop-other : goal.invariant-loop-other
invariant-loop-other l = (v : ℕ) → v < l.other → Hides l.events (Holds l.before) l.at.read l.at.byte l.fn.source v → ⊥
