use Rattle.lit_solve.proofs.Words.{◌<◌, ◌≡◌, length, path_in, ℕ}
use Rattle.lit_solve.proofs.problem.has_guard.Given as goal

abbrev pub invariant-loop-agent : goal.invariant-loop-agent
invariant-loop-agent l = (i : ℕ) → i < l.agent → length (path_in l.combination.0 l.combination.1 i).tests ≡ 0
