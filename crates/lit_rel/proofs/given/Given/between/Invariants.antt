use Rattle.std.proofs.Common.{◌≡◌, ◌↔◌, ◌≤◌, ℕ, length}
use Rattle.lit_rel.specs.Between.{Forbids}
use Rattle.lit_rel.specs.Forbidden.{IsForbiddenTriple}
use Rattle.lit_rel.specs.Rows.{Holds}
use Rattle.lit_rel.proofs.GivenLemmas.{GivenFirst}
use Rattle.lit_rel.proofs.given.Given.between.Given as goal

abbrev pub invariant-loop-byte : goal.invariant-loop-byte
invariant-loop-byte l = record {
  len : l.between.len ≡ length l.self.events.now;
  count : length l.between.pairs ≤ l.byte-index;
  triples : (w r v : ℕ) → Forbids l.between w r v
      ↔ IsForbiddenTriple l.self.events.now (GivenFirst l.self.events.now l.byte-items l.byte-index) (Holds l.before.rows) w r v;
}
