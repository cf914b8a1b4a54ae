use Rattle.std.proofs.Common.{◌≡◌, ◌↔◌, ℕ, ◌<◌, length}
use Rattle.lit_rel.specs.Rows.{Holds, rows_len}
use Rattle.lit_why.specs.Internal.Reaching.{IsStep}
use Rattle.lit_why.proofs.chains.steps.steps_of.Given as goal

abbrev pub invariant-loop-first : goal.invariant-loop-first
invariant-loop-first l = record {
  len : rows_len l.rows ≡ length l.events;
  pairs : (e d : ℕ) → Holds l.rows e d ↔ ((e < l.first) × (d < length l.events) × IsStep l.events (Holds l.synchronizes) e d);
}
