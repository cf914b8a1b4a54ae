use Rattle.std.proofs.Common.{◌≡◌, ℕ, ◌+◌, ◌*◌, false, cond}
use Rattle.lit_order.proofs.RowsLemmas.{pairs_missing}
use Rattle.lit_rel.specs.Between.{Forbids}
use Rattle.lit_rel.specs.Rows.{Holds, rows_len}
use Rattle.lit_why.specs.Derivation.{AreOnce, EachFollows}
use Rattle.lit_why.specs.Internal.Deriving.{HasLine, HasLines}
use Rattle.lit_why.proofs.derivations.searching.lines_to_cycle.Given as goal

abbrev pub decreases-iterations : goal.decreases-iterations
decreases-iterations l = 2 * pairs_missing l.known + cond l.grown 1 0

abbrev pub invariant-iterations : goal.invariant-iterations
invariant-iterations l = record {
  known_len : rows_len l.known ≡ rows_len l.before;
  old_len : rows_len l.old ≡ rows_len l.before;
  follows : EachFollows (Holds l.before) (Forbids l.between) l.lines.items;
  lines : HasLines l.lines.items (Holds l.known);
  once : AreOnce l.lines.items;
  only : (e d : ℕ) → HasLine l.lines.items e d → Holds l.known e d;
  given : (e d : ℕ) → Holds l.before e d → Holds l.known e d;
  older : (e d : ℕ) → Holds l.old e d → Holds l.known e d;
  same : l.grown ≡ false → (e d : ℕ) → Holds l.known e d → Holds l.old e d;
  no_cycle : (e : ℕ) → ¬ Holds l.known e e;
}
