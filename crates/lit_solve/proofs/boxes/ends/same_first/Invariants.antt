use Rattle.lit_solve.proofs.Words.{◌<◌, get_or, ℕ, ◌≡◌}
use Rattle.lit_solve.proofs.boxes.ends.same_first.Given as goal

abbrev pub invariant-loop-place : goal.invariant-loop-place
invariant-loop-place l = (k : ℕ) → k < l.place → get_or l.a k 0 ≡ get_or l.b k 0
