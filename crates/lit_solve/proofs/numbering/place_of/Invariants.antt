use Rattle.lit_solve.proofs.Words.{◌<◌, get_or, ℕ, ◌≡◌}
use Rattle.lit_solve.proofs.numbering.place_of.Given as goal

abbrev pub invariant-loop-place : goal.invariant-loop-place
invariant-loop-place l = (k : ℕ) → k < l.place → get_or l.events k 0 ≡ l.event → ⊥
