use Rattle.lit_solve.proofs.Words.{events_on, share_below, ◌≡◌}
use Rattle.lit_solve.proofs.problem.Problem.digits_of.Given as goal

abbrev pub invariant-loop-place : goal.invariant-loop-place
invariant-loop-place l = l.share ≡ share_below (events_on l.self) l.read l.sources l.place
