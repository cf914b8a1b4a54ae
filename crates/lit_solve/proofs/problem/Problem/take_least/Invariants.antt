use Rattle.lit_solve.proofs.Words.{◌≡◌, box_of, Execution, HasEvent, HasSource, IsSolution, slice_get, Some, ℕ}
use Rattle.lit_solve.proofs.problem.Problem.take_least.Given as goal

abbrev pub invariant-loop-source : goal.invariant-loop-source
invariant-loop-source l = record {
  same : l.frame ≡ l.before;
  kept : l.leaf ≡ l.initial.leaf;
  within : (w : ℕ) → HasEvent l.left w → HasSource (box_of l.self l.before) l.place w;
  taken : (x : Execution) → IsSolution (box_of l.self l.before) l.goal x → (w : ℕ) → slice_get x.sources l.place ≡ Some w → HasEvent l.left w;
}

abbrev pub decreases-loop-source : goal.decreases-loop-source
decreases-loop-source l = l.left.bits
