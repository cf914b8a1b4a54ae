use Rattle.lit_solve.proofs.Words.{◌<◌, box_of, Holds, IsContained, IsSynchronizedAt, ℕ, ◌≡◌}
use Rattle.lit_solve.proofs.problem.Problem.synchronize.Given as goal

abbrev pub invariant-loop-place : goal.invariant-loop-place
invariant-loop-place l = record {
  domains : l.frame.domains ≡ l.initial.frame.domains;
  contained : IsContained (box_of l.self l.frame) l.frame;
  there : (k : ℕ) → k < l.place → IsSynchronizedAt (box_of l.self l.frame) (Holds l.frame.happens_before.rows) k;
}
