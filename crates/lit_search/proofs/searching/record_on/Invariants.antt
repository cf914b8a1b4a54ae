use Rattle.lit_search.proofs.Words.{Gains, IsOfFirst}
use Rattle.lit_search.proofs.searching.record_on.Given as goal

abbrev pub invariant-loop-place : goal.invariant-loop-place
invariant-loop-place g l = Gains l.problem.0 (λ n. IsOfFirst l.problem.0 l.boxes l.from l.to l.place n) l.fn.table l.table l.raced l.race
