use Rattle.lit_solve.proofs.Words.{box_with, condition_of, drop}
use Rattle.lit_solve.proofs.ConditionLemmas.{IsAllLeft, IsAnyLeft}
use Rattle.lit_solve.proofs.problem.Problem.+decide.Given as goal

abbrev pub invariant-any : goal.invariant-any
invariant-any l = IsAnyLeft (box_with l.self l.domains) (condition_of l.condition) (drop l.member-index l.member-items) l.decided

abbrev pub invariant-all : goal.invariant-all
invariant-all l = IsAllLeft (box_with l.self l.domains) (condition_of l.condition) (drop l.member-index l.member-items) l.decided
