use Rattle.std.proofs.Common.{ℕ, ◌<◌}
use Rattle.lit_rel.specs.DataRace.{IsDataRace}
use Rattle.lit_rel.specs.Rows.{Holds}
use Rattle.lit_why.proofs.racing.racing_after.Given as goal

abbrev pub invariant-loop-second : goal.invariant-loop-second
invariant-loop-second l = (d : ℕ) → l.first < d → d < l.second → IsDataRace l.events (Holds l.before) (Holds l.reads) l.first d → ⊥
