use Rattle.lit_solve.proofs.Words.{Any, box_with, Execution, HasEvent, HasSource, IsSolution, slice_get, Some, ℕ, ◌≡◌}
use Rattle.lit_solve.proofs.problem.Problem.give_least.Given as goal

abbrev pub invariant-loop-source : goal.invariant-loop-source
invariant-loop-source l = record {
  same : l.domains ≡ l.fn.domains;
  within : (w : ℕ) → HasEvent l.left w → HasSource (box_with l.self l.domains) l.place w;
  taken : (x : Execution) → IsSolution (box_with l.self l.domains) Any x → (w : ℕ) → slice_get x.sources l.place ≡ Some w → HasEvent l.left w;
}

abbrev pub decreases-loop-source : goal.decreases-loop-source
decreases-loop-source l = l.left.bits
