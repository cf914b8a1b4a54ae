use Rattle.std.proofs.Common.{ℕ, ◌<◌}
use Rattle.lit_rel.specs.Rows.{Holds}
use Rattle.lit_why.proofs.derivations.following.joined.Given as goal

abbrev pub invariant-loop-first : goal.invariant-loop-first
invariant-loop-first l = (e : ℕ) → e < l.first → (m d : ℕ) → Holds l.old e m → Holds l.old m d → Holds l.known e d
