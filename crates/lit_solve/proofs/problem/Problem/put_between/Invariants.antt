use Rattle.lit_solve.proofs.Words.{◌<◌, box_of, events_on, Forbids, Holds, IsForbiddenAt, length, ℕ, ◌↔◌, ◌≡◌, ◌≤◌}
use Rattle.lit_solve.specs.Internal.Frames.{IsUnsettled}
use Rattle.lit_solve.proofs.problem.Problem.put_between.Given as goal

abbrev pub invariant-loop-place : goal.invariant-loop-place
invariant-loop-place l = record {
  len : l.between.len ≡ length (events_on l.self);
  count : length l.between.pairs ≤ l.place;
  triples : (w r v : ℕ) → Forbids l.between w r v ↔ ((k : ℕ) × (k < l.place)
      × (IsForbiddenAt (box_of l.self l.frame) k w r v × IsUnsettled (Holds l.frame.forced.rows) w r v));
}
