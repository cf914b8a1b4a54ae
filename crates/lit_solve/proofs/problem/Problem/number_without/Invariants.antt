use Rattle.lit_solve.proofs.NumberLemmas.{IsSumBelow}
use Rattle.lit_solve.proofs.problem.Problem.number_without.Given as goal

abbrev pub invariant-loop-place : goal.invariant-loop-place
invariant-loop-place l = IsSumBelow l.self l.reads l.sources l.place l.number
