use Rattle.lit_solve.proofs.Words.{box_of, Execution, HasEvent, HasSource, IsSolution, size_of, slice_get, Some, ℕ, ◌≡◌}
use Rattle.lit_solve.proofs.problem.Problem.+solve.Given as goal

abbrev pub decreases-solve : goal.decreases-solve
decreases-solve l = size_of l.frame.now.domains

abbrev pub invariant-loop-source : goal.invariant-loop-source
invariant-loop-source l = record {
  within : (w : ℕ) → HasEvent l.left w → HasSource (box_of l.self l.frame) l.branch.place w;
  same : l.leaf ≡ l.fn.leaf;
  taken : (x : Execution) → IsSolution (box_of l.self l.frame) l.goal x → (w : ℕ) → slice_get x.sources l.branch.place ≡ Some w → HasEvent l.left w;
}

abbrev pub decreases-loop-source : goal.decreases-loop-source
decreases-loop-source l = l.left.bits
