use Rattle.lit_solve.proofs.Words.{◌<◌, box_of, Holds, MayHave, RacesAt, ℕ}
use Rattle.lit_solve.proofs.problem.Problem.races.Given as goal

abbrev pub invariant-loop-place : goal.invariant-loop-place
invariant-loop-place l =
    (k : ℕ) → k < l.place → ¬ RacesAt (box_of l.self l.frame) (Holds l.before) (MayHave (box_of l.self l.frame)
    l.filling) k
