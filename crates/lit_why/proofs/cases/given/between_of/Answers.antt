use Rattle.std.proofs.Common.{◌≡◌, arith, length, ◌∙◌}
use Rattle.lit_paths.specs.ByteReads.{byte_reads}
use Rattle.lit_rel.specs.Between.{Forbids}
use Rattle.lit_solve.specs.Box.{box_with, events_on}
use Rattle.lit_solve.specs.Internal.Frames.{IsForbiddenAt}
use Rattle.lit_solve.proofs.FrameLemmas.{forbidden_in, one_more}
use Rattle.lit_why.proofs.TrialLemmas.{reads_len}
use Rattle.lit_why.proofs.cases.given.between_of.Goals as goal

pub loop-place-preserved : goal.loop-place-preserved
loop-place-preserved c = record {
  len = c.forbid.ensures.len ∙ c.loop-place.invariant.len;
  count = omega (arith, c.forbid.ensures.count, c.loop-place.invariant.count);
  triples = λ w r v.
      one_more (λ k. IsForbiddenAt (box_with c.args.problem.now c.args.domains.now) k w r v) c.loop-place.place
      (Forbids c.loop-place.between w r v) (Forbids c.forbid.new.between w r v)
      (c.loop-place.invariant.triples w r v) (c.forbid.ensures.triples w r v);
}

pub returns-clause-triples : goal.returns-clause-triples
returns-clause-triples c w r v =
    let p = c.args.problem.now in
    let long = reads_len p c.combination-2.result.now c.byte_reads-place-end.result.now c.byte_reads-place-end.ensures
    c.combination-2.ensures in
    let all : c.loop-place.place ≡ length (byte_reads (events_on p)) =
    omega (arith, c.loop-place-test.false, c.loop-place.auto.place-end, long) in
    let so_far = c.loop-place.invariant.triples w r v in
    let given = forbidden_in (box_with p c.args.domains.now) c.loop-place.place w r v all in
    (λ f. given.0 (so_far.0 f), λ f. so_far.1 (given.1 f))
