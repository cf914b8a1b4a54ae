use Rattle.std.proofs.Common.{◌≡◌}
use Rattle.lit_rel.specs.Rows.{rows_len, Holds}
use Rattle.lit_rel.proofs.ChainLemmas.{IsClosedBelow}
use Rattle.lit_rel.proofs.rows.closing.close.Given as goal

abbrev pub invariant-loop-middle : goal.invariant-loop-middle
invariant-loop-middle l = record {
  len : rows_len l.rows ≡ rows_len l.initial.rows;
  closed : IsClosedBelow (Holds l.initial.rows) (Holds l.rows) l.middle;
}
