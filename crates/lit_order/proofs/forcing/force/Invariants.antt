use Rattle.std.proofs.Common.{◌≡◌, ℕ}
use Rattle.lit_rel.specs.Between.{Forbids}
use Rattle.lit_rel.specs.Rows.{rows_len, Holds, IsTransitive}
use Rattle.lit_order.specs.Forcing.{IsForced}
use Rattle.lit_order.proofs.RowsLemmas.{pairs_missing}
use Rattle.lit_order.proofs.forcing.force.Given as goal

abbrev pub decreases-forcing : goal.decreases-forcing
decreases-forcing l = pairs_missing l.forced.rows

abbrev pub invariant-forcing : goal.invariant-forcing
invariant-forcing l = record {
  len : rows_len l.forced.rows ≡ rows_len l.fn.forced.rows;
  given : (a d : ℕ) → Holds l.fn.forced.rows a d → Holds l.forced.rows a d;
  sound : (a d : ℕ) → Holds l.forced.rows a d → IsForced (Holds l.fn.forced.rows) (Forbids l.fn.between) a d;
  transitive : IsTransitive (Holds l.forced.rows);
  no_cycle : (e : ℕ) → ¬ Holds l.forced.rows e e;
}
