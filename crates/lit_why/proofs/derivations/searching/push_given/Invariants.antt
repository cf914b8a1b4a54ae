use Rattle.std.proofs.Common.{◌≡◌, ◌⊎◌, ℕ, ◌<◌}
use Rattle.lit_rel.specs.Rows.{Holds}
use Rattle.lit_why.specs.Derivation.{AreOnce}
use Rattle.lit_why.specs.Internal.Deriving.{AreGiven, HasLine}
use Rattle.lit_why.proofs.derivations.searching.push_given.Given as goal

abbrev pub invariant-loop-second : goal.invariant-loop-second
invariant-loop-second l = record {
  given : AreGiven (Holds l.before) l.initial.lines.items → AreGiven (Holds l.before) l.lines.items;
  retained : (e d : ℕ) → HasLine l.initial.lines.items e d → HasLine l.lines.items e d;
  once : AreOnce l.initial.lines.items → ((d : ℕ) → ¬ HasLine l.initial.lines.items l.first d) → AreOnce l.lines.items;
  only : (e d : ℕ) → HasLine l.lines.items e d → HasLine l.initial.lines.items e d ⊎ ((e ≡ l.first) × (d < l.second));
  all : (d : ℕ) → d < l.second → Holds l.before l.first d → HasLine l.lines.items l.first d;
}
