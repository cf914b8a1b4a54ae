use Rattle.std.proofs.Common.{ℕ, ◌<◌}
use Rattle.lit_rel.specs.Rows.{Holds}
use Rattle.lit_why.proofs.derivations.following.joined_from.Given as goal

abbrev pub invariant-loop-middle : goal.invariant-loop-middle
invariant-loop-middle l = (m : ℕ) → m < l.middle → (d : ℕ) → Holds l.old l.first m → Holds l.old m d → Holds l.known l.first d
