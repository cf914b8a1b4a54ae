-- Reads of one byte, which nothing can tear.
use Rattle.lit_solve.proofs.Words.{arith, Box, box_events, byte_reads, CanFill, event_at, HasEmptyDomain, HasFalseGuardOn, HasSource, IsBox, length, List, ap}
use Rattle.lit_solve.proofs.Words.{ReadsByteFrom, ReadsWholeBy, same_Some, slice_get, Some, subst, sym, value_of, ℕ, ◌+◌, ◌∙◌, ◌≡◌}
use Rattle.lit_rel.proofs.ByteReadLemmas.{are_of_events}
use Rattle.lit_solve.proofs.FillingLemmas.{some_from}

module _ (box : Box) (r : ℕ) (one : (event_at (box_events box) r).size ≡ 1) where
  -- all its sources are one
  never_torn : (sources : List ℕ) (w v : ℕ) → ReadsWholeBy (box_events box) (ReadsByteFrom (box_events box) sources) r w
      → ReadsWholeBy (box_events box) (ReadsByteFrom (box_events box) sources) r v → v ≡ w
  never_torn sources w v takes other =
      let of = are_of_events (box_events box) in
      let here = takes.reads.1 in
      let there = other.reads.1 in
      let first = of.in_range here.0 r takes.reads.0 here.1 in
      let second = of.in_range there.0 r other.reads.0 there.1 in
      let byte : other.reads.0 ≡ takes.reads.0 = omega (arith, one, first.0, first.1, second.0, second.1) in
      let place : here.0 ≡ there.0 = of.once here.0 there.0 r takes.reads.0 here.1 (rw byte at there.1) in
      same_Some v w (sym there.2 ∙ ap (slice_get sources) (sym place) ∙ here.2)

  -- where no guard on it is false, any source fills it
  pub one_byte_filled : IsBox box → ¬ HasEmptyDomain box → ((value : ℕ) → ¬ HasFalseGuardOn box.test box.combination (Some r) value) → CanFill box r
  one_byte_filled is_box some unguarded =
      let found = some_from box is_box some (length (byte_reads (box_events box))) 0 (omega arith) in
      let there : (i w : ℕ) → slice_get found.0 i ≡ Some w → HasSource box i w = λ i w at.
      let e : 0 + i ≡ i = omega arith in subst (λ (j : ℕ). HasSource box j w) e (found.1.within i w at) in (
        found.0,
        record {
          sourced = record {
            one_each = omega (arith, found.1.one_each);
            each = λ i q b w at source. is_box.candidates i q b w at (there i w source);
          };
          within = there;
        },
        record {
          tear_free = never_torn found.0;
          guards = unguarded (value_of (box_events box) found.0 r);
        },
      )
