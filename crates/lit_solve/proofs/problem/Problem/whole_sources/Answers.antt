use Rattle.lit_solve.proofs.Words.{◌<◌, ap, arith, box_of, byte_read_at, byte_reads, events_on, EventSet, GivenIn, HasEvent, inl, inr}
use Rattle.lit_solve.proofs.Words.{ReadsWholeBy, subst, sym, ℕ, ◌∙◌, ◌≡◌}
use Rattle.std.specs.Prelude.{length}
use Rattle.lit_solve.proofs.PruningLemmas.{read_here}
use Rattle.lit_solve.proofs.problem.Problem.whole_sources.Goals as goal
use Rattle.lit_solve.proofs.problem.Problem.whole_sources.Goals.{then-byte_read-read, else-byte_read-read}

pub loop-other-preserved : goal.loop-other-preserved
loop-other-preserved c u here =
    let events = events_on c.args.self.now in
    let box = box_of c.args.self.now c.args.frame.now in
    let read = (byte_read_at events c.args.place).0 in
    let other = c.loop-other.other in
    elim c.if-byte_read-read.branch [
      | then-byte_read-read w ↦
          let of_read : (byte_read_at events other).0 ≡ read =
          sym (ap (λ (p : ℕ × ℕ). p.0) c.byte_read.ensures.is)
          ∙ w.if-byte_read-read.true
          ∙ ap (λ (p : ℕ × ℕ). p.0) c.byte_read-read.ensures.is in
          let inside : other < length (byte_reads events) = omega arith in
          let there : HasEvent w.union-whole.result u = subst (λ (set : EventSet). HasEvent set u) w.whole-is here in
          elim ((w.union-whole.ensures u).0 there) [
            | inl earlier ↦ c.loop-other.invariant u earlier
            | inr new ↦
                let both = w.whole_source.ensures u new in
                subst (λ (r : ℕ). ReadsWholeBy events (GivenIn box) r u) of_read
                (record {
                  reads = ((byte_read_at events other).1, record { place = other; is_read = read_here events other inside; alone = both.0 });
                  can = both.1;
                })
          ]
      | else-byte_read-read w ↦ c.loop-other.invariant u (subst (λ (set : EventSet). HasEvent set u) w.whole-is here)
    ]
