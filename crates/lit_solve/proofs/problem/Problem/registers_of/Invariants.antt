use Rattle.lit_solve.proofs.Words.{◌<◌, length, Observes, slice_get, Some, ℕ, ◌↔◌, ◌≡◌, ◌≤◌}
use Rattle.lit_solve.proofs.problem.Problem.registers_of.Given as goal

abbrev pub invariant-loop-i : goal.invariant-loop-i
invariant-loop-i l = record {
  few : length l.places.items ≤ l.i;
  are : (j : ℕ) → ((k : ℕ) × (slice_get l.places.items k ≡ Some j)) ↔ ((j < l.i) × Observes l.self l.read j);
}
