use Rattle.lit_solve.proofs.Words.{◌<◌, box_with, BYTE_READ_LIMIT, HasSource, IsBox, length, Prunes, ℕ, ◌≡◌}
use Rattle.lit_solve.proofs.problem.Problem.consistent.Given as goal

abbrev pub invariant-loop-place : goal.invariant-loop-place
invariant-loop-place l = record {
  len : length l.left ≡ BYTE_READ_LIMIT;
  is_box : IsBox (box_with l.self l.left);
  prunes : Prunes (box_with l.self l.fn.domains) (box_with l.self l.left);
  some : (k : ℕ) → k < l.place → ¬ ((w : ℕ) → ¬ HasSource (box_with l.self l.left) k w);
}
