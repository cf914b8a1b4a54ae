use Rattle.std.proofs.Common.{◌≡◌, ◌↔◌, ◌<◌, ℕ}
use Rattle.lit_rel.specs.Rows.{rows_len, Holds}
use Rattle.lit_rel.proofs.rows.two_way_rows.converse_of.Given as goal

abbrev pub invariant-loop-event : goal.invariant-loop-event
invariant-loop-event l = record {
  len : rows_len l.converse ≡ rows_len l.rows;
  pairs : (a d : ℕ) → Holds l.converse d a ↔ ((a < l.event) × Holds l.rows a d);
}
