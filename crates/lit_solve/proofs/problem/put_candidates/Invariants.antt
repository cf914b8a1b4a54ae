use Rattle.lit_solve.proofs.Words.{◌<◌, ◌↔◌, ◌≡◌, BYTE_READ_LIMIT, byte_reads, events_on, HasEvent, IsCandidate}
use Rattle.lit_solve.proofs.Words.{length, no_events, slice_get, slice_index_or, Some, ℕ}
use Rattle.lit_solve.proofs.problem.put_candidates.Given as goal

abbrev pub invariant-loop-place : goal.invariant-loop-place
invariant-loop-place l = record {
  len : length l.candidates ≡ BYTE_READ_LIMIT;
  all : (k r b w : ℕ) → k < l.place → slice_get (byte_reads (events_on l.combination)) k ≡ Some (r, b)
      → HasEvent (slice_index_or l.candidates k no_events) w ↔ IsCandidate (events_on l.combination) r b w;
}
