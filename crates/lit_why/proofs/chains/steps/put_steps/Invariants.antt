use Rattle.std.proofs.Common.{◌≡◌, ◌⊎◌, ◌↔◌, ℕ, ◌<◌}
use Rattle.lit_rel.specs.Rows.{Holds, rows_len}
use Rattle.lit_why.specs.Internal.Reaching.{IsStep}
use Rattle.lit_why.proofs.chains.steps.put_steps.Given as goal

abbrev pub invariant-loop-second : goal.invariant-loop-second
invariant-loop-second l = record {
  len : rows_len l.rows ≡ rows_len l.initial.rows;
  pairs : (e d : ℕ) → Holds l.rows e d ↔ (Holds l.initial.rows e d ⊎ ((e ≡ l.first) × (d < l.second) × IsStep l.events (Holds l.synchronizes) l.first d));
}
