use Rattle.std.proofs.Common.{◌≡◌, ◌↔◌, ◌⊎◌, ◌<◌, ℕ}
use Rattle.lit_rel.specs.EventSet.{HasEvent}
use Rattle.lit_rel.specs.Rows.{rows_len, Holds}
use Rattle.lit_order.proofs.forced_finder.placed_next.Given as goal

abbrev pub invariant-loop-other : goal.invariant-loop-other
invariant-loop-other l = record {
  len : rows_len l.next ≡ rows_len l.rows;
  pairs : (a d : ℕ) → Holds l.next a d ↔ (Holds l.rows a d ⊎ ((a ≡ l.event) × (d < l.other) × ¬ HasEvent l.placed d));
}
