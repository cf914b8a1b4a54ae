use Rattle.std.proofs.Common.{◌≡◌, ◌↔◌, ◌⊎◌, ◌<◌, ℕ}
use Rattle.lit_rel.specs.EventSet.{HasEvent}
use Rattle.lit_rel.specs.Rows.{rows_len, Holds}
use Rattle.lit_rel.proofs.rows.Rows.put_led.Given as goal

abbrev pub invariant-loop-first : goal.invariant-loop-first
invariant-loop-first l = record {
  len : rows_len l.self ≡ rows_len l.initial.self;
  pairs : (x y : ℕ) → Holds l.self x y
      ↔ (Holds l.initial.self x y ⊎ ((x < l.first) × (Holds l.initial.self x l.a ⊎ (x ≡ l.a)) × HasEvent l.set y));
}
