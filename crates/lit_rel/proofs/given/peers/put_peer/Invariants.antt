use Rattle.std.proofs.Common.{◌≡◌, ◌⊎◌, ◌↔◌, ℕ, ◌<◌}
use Rattle.lit_rel.specs.Peers.{IsPeer}
use Rattle.lit_rel.specs.Rows.{Holds, rows_len}
use Rattle.lit_rel.proofs.given.peers.put_peer.Given as goal

abbrev pub invariant-loop-event : goal.invariant-loop-event
invariant-loop-event l = record {
  len : rows_len l.peers ≡ rows_len l.fn.peers;
  pairs : (e v : ℕ) → Holds l.peers e v ↔ (Holds l.fn.peers e v ⊎ ((e < l.event) × (v ≡ l.fn.write) × IsPeer l.events e v));
}
