use Rattle.std.proofs.Common.{ℕ, ◌<◌}
use Rattle.lit_rel.specs.Racing.{AreApart, WritesWith}
use Rattle.lit_rel.specs.Rows.{Holds}
use Rattle.lit_rel.proofs.given.races.has_racing_writes.Given as goal

abbrev pub invariant-loop-write : goal.invariant-loop-write
invariant-loop-write l = (e : ℕ) → e < l.write → (d : ℕ) → d < e → WritesWith l.events e d → AreApart l.events (Holds l.before) e d → ⊥
