use Rattle.lit_solve.proofs.Words.{◌<◌, ◌≡◌, byte_reads, events_on, slice_get, Some, ℕ}
use Rattle.lit_solve.proofs.problem.Problem.first_place.Given as goal

abbrev pub invariant-loop-place : goal.invariant-loop-place
invariant-loop-place l = (k r b : ℕ) → k < l.place → slice_get (byte_reads (events_on l.self)) k ≡ Some (r, b) → r < l.read
