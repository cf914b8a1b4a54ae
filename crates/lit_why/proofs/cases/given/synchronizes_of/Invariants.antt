use Rattle.std.proofs.Common.{◌≡◌, ◌↔◌, ℕ, ◌<◌, length}
use Rattle.lit_paths.specs.Event.{event_at}
use Rattle.lit_rel.specs.Rows.{Holds, rows_len}
use Rattle.lit_rel.specs.SynchronizesWith.{CanSynchronize}
use Rattle.lit_why.proofs.cases.given.synchronizes_of.Given as goal

abbrev pub invariant-loop-first : goal.invariant-loop-first
invariant-loop-first l = record {
  len : rows_len l.rows ≡ length l.events;
  pairs : (e d : ℕ) → Holds l.rows e d ↔ ((e < l.first) × (d < length l.events)
      × (Holds l.reads d e × CanSynchronize (event_at l.events e) (event_at l.events d)));
}
