use Rattle.std.proofs.Common.{◌≡◌, ◌↔◌, ◌<◌, ℕ, length}
use Rattle.lit_rel.specs.Internal.Steps.{IsFixedStep}
use Rattle.lit_rel.specs.Rows.{rows_len, Holds}
use Rattle.lit_rel.proofs.part.fixed_steps.unsourced_order.Given as goal

abbrev pub invariant-loop-first : goal.invariant-loop-first
invariant-loop-first l = record {
  len : rows_len l.steps ≡ length l.events;
  pairs : (e d : ℕ) → Holds l.steps e d ↔ ((e < l.first) × IsFixedStep l.events e d);
}
