use Rattle.std.proofs.Common.{◌≡◌, ◌⊎◌, ◌↔◌, ℕ, ◌<◌}
use Rattle.lit_paths.specs.Event.{event_at}
use Rattle.lit_rel.specs.Rows.{Holds, rows_len}
use Rattle.lit_rel.specs.SynchronizesWith.{CanSynchronize}
use Rattle.lit_why.proofs.cases.given.put_synchronized.Given as goal

abbrev pub invariant-loop-second : goal.invariant-loop-second
invariant-loop-second l = record {
  len : rows_len l.rows ≡ rows_len l.initial.rows;
  pairs : (e d : ℕ) → Holds l.rows e d ↔ (Holds l.initial.rows e d ⊎ ((e ≡ l.first) × (d < l.second)
      × (Holds l.reads d l.first × CanSynchronize (event_at l.events l.first) (event_at l.events d))));
}
