use Rattle.lit_solve.proofs.Words.{box_with}
use Rattle.lit_solve.proofs.ReadValueLemmas.{IsDecidedBelow}
use Rattle.lit_solve.proofs.problem.Problem.read_is.Given as goal

abbrev pub invariant-loop-place : goal.invariant-loop-place
invariant-loop-place l = IsDecidedBelow (box_with l.self l.domains) l.read l.value l.place l.decided
