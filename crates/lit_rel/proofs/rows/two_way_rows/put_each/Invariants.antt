use Rattle.std.proofs.Common.{◌≡◌, ◌↔◌, ◌⊎◌, ℕ}
use Rattle.lit_rel.specs.EventSet.{HasEvent}
use Rattle.lit_rel.specs.Rows.{rows_len, Holds}
use Rattle.lit_rel.proofs.rows.two_way_rows.put_each.Given as goal

abbrev pub invariant-loop-first : goal.invariant-loop-first
invariant-loop-first l = record {
  len : rows_len l.rows ≡ rows_len l.fn.rows;
  within : (e : ℕ) → HasEvent l.left e → HasEvent l.fn.firsts e;
  pairs : (a d : ℕ) → Holds l.rows a d ↔ (Holds l.fn.rows a d ⊎ (HasEvent l.fn.firsts a × ¬ HasEvent l.left a × HasEvent l.seconds d));
}

abbrev pub decreases-loop-first : goal.decreases-loop-first
decreases-loop-first l = l.left.bits
