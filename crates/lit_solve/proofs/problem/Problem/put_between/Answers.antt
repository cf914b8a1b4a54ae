use Rattle.lit_solve.proofs.Words.{arith, box_of, byte_reads, events_on, Forbids, Holds, IsForbiddenAt, length, ◌∙◌, ◌≡◌}
use Rattle.lit_solve.specs.Internal.Frames.{IsUnsettled}
use Rattle.lit_solve.proofs.FrameLemmas.{forbidden_in, one_more}
use Rattle.lit_solve.proofs.problem.Problem.put_between.Goals as goal

pub loop-place-preserved : goal.loop-place-preserved
loop-place-preserved c = record {
  len = c.forbid.ensures.len ∙ c.loop-place.invariant.len;
  count = omega (arith, c.forbid.ensures.count, c.loop-place.invariant.count);
  triples = λ w r v.
      one_more (λ k. IsForbiddenAt (box_of c.args.self.now c.args.frame.now) k w r v × IsUnsettled (Holds c.args.frame.now.forced.rows) w r v) c.loop-place.place (Forbids c.loop-place.between w r v)
      (Forbids c.forbid.new.between w r v)
      (c.loop-place.invariant.triples w r v) (c.forbid.ensures.triples w r v);
}

pub returns-clause-triples : goal.returns-clause-triples
returns-clause-triples c w r v =
    let all : c.loop-place.place ≡ length (byte_reads (events_on c.args.self.now)) = omega
    (arith, c.loop-place-test.false, c.loop-place.auto.place-end, c.reads-place-end.ensures.value) in
    let retained = c.loop-place.invariant.triples w r v in
    let given = forbidden_in (box_of c.args.self.now c.args.frame.now) c.loop-place.place w r v all in (
      (λ f. let one = retained.0 f in (given.0 (one.0, one.1, one.2.0), one.2.1)),
      (λ f. let one = given.1 f.0 in retained.1 (one.0, one.1, (one.2, f.1))),
    )
