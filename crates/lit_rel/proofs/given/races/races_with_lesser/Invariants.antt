use Rattle.std.proofs.Common.{ℕ, ◌<◌}
use Rattle.lit_rel.specs.Racing.{AreApart, WritesWith}
use Rattle.lit_rel.specs.Rows.{Holds}
use Rattle.lit_rel.proofs.given.races.races_with_lesser.Given as goal

abbrev pub invariant-loop-other : goal.invariant-loop-other
invariant-loop-other l = (d : ℕ) → d < l.other → WritesWith l.events l.write d → AreApart l.events (Holds l.before) l.write d → ⊥
