use Rattle.lit_solve.proofs.Words.{◌<◌, box_with, CanFill, ℕ}
use Rattle.lit_solve.proofs.problem.Problem.can_fill_each.Given as goal

abbrev pub invariant-loop-read : goal.invariant-loop-read
invariant-loop-read l = (r : ℕ) → r < l.read → CanFill (box_with l.self l.domains) r
