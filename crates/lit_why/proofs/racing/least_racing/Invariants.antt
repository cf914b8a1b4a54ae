use Rattle.std.proofs.Common.{ℕ, ◌<◌}
use Rattle.lit_rel.specs.DataRace.{IsDataRace}
use Rattle.lit_rel.specs.Rows.{Holds}
use Rattle.lit_why.proofs.racing.least_racing.Given as goal

abbrev pub invariant-loop-first : goal.invariant-loop-first
invariant-loop-first l = (e d : ℕ) → e < l.first → e < d → IsDataRace l.events (Holds l.before) (Holds l.reads) e d → ⊥
