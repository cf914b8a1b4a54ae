use Rattle.std.proofs.Common.{◌≡◌, ◌↔◌, ℕ, ◌<◌, ◌≤◌, length}
use Rattle.lit_rel.specs.Between.{Forbids}
use Rattle.lit_solve.specs.Box.{box_with, events_on}
use Rattle.lit_solve.specs.Internal.Frames.{IsForbiddenAt}
use Rattle.lit_why.proofs.cases.given.between_of.Given as goal

abbrev pub invariant-loop-place : goal.invariant-loop-place
invariant-loop-place l = record {
  len : l.between.len ≡ length (events_on l.problem);
  count : length l.between.pairs ≤ l.place;
  triples : (w r v : ℕ) → Forbids l.between w r v ↔ ((k : ℕ) × (k < l.place) × IsForbiddenAt (box_with l.problem l.domains) k w r v);
}
