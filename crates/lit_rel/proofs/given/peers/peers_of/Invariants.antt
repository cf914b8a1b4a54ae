use Rattle.std.proofs.Common.{◌≡◌, ◌↔◌, ℕ, ◌<◌, length}
use Rattle.lit_rel.specs.Peers.{IsPeer}
use Rattle.lit_rel.specs.Rows.{Holds, rows_len}
use Rattle.lit_rel.proofs.given.peers.peers_of.Given as goal

abbrev pub invariant-loop-number : goal.invariant-loop-number
invariant-loop-number l = record {
  len : rows_len l.peers ≡ length l.events;
  pairs : (e v : ℕ) → Holds l.peers e v ↔ ((v < l.number) × IsPeer l.events e v);
}
