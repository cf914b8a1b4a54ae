use Rattle.std.proofs.Common.{ℕ, ◌<◌}
use Rattle.lit_rel.specs.Rows.{Holds}
use Rattle.lit_why.specs.Derivation.{AreOnce}
use Rattle.lit_why.specs.Internal.Deriving.{AreGiven, HasLine}
use Rattle.lit_why.proofs.derivations.searching.given_lines.Given as goal

abbrev pub invariant-loop-first : goal.invariant-loop-first
invariant-loop-first l = record {
  given : AreGiven (Holds l.before) l.lines.items;
  once : AreOnce l.lines.items;
  only : (e d : ℕ) → HasLine l.lines.items e d → e < l.first;
  all : (e : ℕ) → e < l.first → (d : ℕ) → Holds l.before e d → HasLine l.lines.items e d;
}
