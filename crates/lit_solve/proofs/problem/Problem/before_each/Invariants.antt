use Rattle.lit_solve.proofs.Words.{◌<◌, box_of, byte_read_at, CanSynchronize, event_at, events_on, HasEvent, HasSource, Holds, length, ℕ, ◌≡◌, ◌⊎◌}
use Rattle.lit_solve.proofs.problem.Problem.before_each.Given as goal

abbrev pub invariant-loop-source : goal.invariant-loop-source
invariant-loop-source l = record {
  left : (w : ℕ) → HasEvent l.left w → HasSource (box_of l.self l.frame) l.place w;
  known : (e : ℕ) → HasEvent l.before e → e < length (events_on l.self);
  before : (e w : ℕ) → HasEvent l.before e → HasSource (box_of l.self l.frame) l.place w → ¬ HasEvent l.left w
      → CanSynchronize (event_at (events_on l.self) w) (event_at (events_on l.self) (byte_read_at (events_on l.self) l.place).0)
      × (Holds l.ordered.rows e w ⊎ (e ≡ w));
}

abbrev pub decreases-loop-source : goal.decreases-loop-source
decreases-loop-source l = l.left.bits
