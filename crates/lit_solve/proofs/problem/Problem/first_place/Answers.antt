use Rattle.lit_solve.proofs.Words.{◌∙◌, ap, arith, byte_reads, cases_eq, events_on, inl, inr}
use Rattle.lit_solve.proofs.Words.{same_Some, slice_get, slice_get_within, sym, ℕ}
use Rattle.lit_solve.proofs.ReadByteLemmas.{rise}
use Rattle.lit_solve.proofs.problem.Problem.first_place.Goals as goal

pub returns-then-byte_read-read : goal.returns-then-byte_read-read
returns-then-byte_read-read c =
    record {
      within = omega (arith, c.loop-place-test.true, c.reads-place-end.ensures.value);
      before = c.loop-place.invariant;
      later = λ k r b le at.
          let rises = rise (events_on c.args.self.now) c.loop-place.place k _ (r, b) le c.byte_read.ensures.at at in
          omega (arith, rises, c.if-byte_read-read.true);
    }

pub loop-place-preserved : goal.loop-place-preserved
loop-place-preserved c k r b less at = elim (cases_eq k c.loop-place.place) [
  | inl same ↦
      (let is = ap (λ (p : ℕ × ℕ). p.0) (same_Some (r, b) _ (sym at ∙ ap (slice_get (byte_reads (events_on c.args.self.now))) same
      ∙ c.byte_read.ensures.at)) in
      omega (arith, is, c.if-byte_read-read.false))
  | inr other ↦ c.loop-place.invariant k r b (omega (arith, less, other)) at
]

pub returns : goal.returns
returns c =
    record {
      within = omega (arith, c.reads.ensures.value);
      before = λ k r b less at. c.loop-place.invariant k r b (omega (arith, less, c.loop-place-test.false, c.reads-place-end.ensures.value, c.reads.ensures.value)) at;
      later = λ k r b le at. absurd (omega (arith, le, c.reads.ensures.value, slice_get_within (byte_reads (events_on c.args.self.now)) k (r, b) at));
    }
