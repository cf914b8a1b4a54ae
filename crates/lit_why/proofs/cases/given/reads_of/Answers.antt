use Rattle.std.proofs.Common.{◌≡◌, arith, length, ◌∙◌}
use Rattle.lit_paths.specs.ByteReads.{byte_reads}
use Rattle.lit_rel.specs.Rows.{Holds}
use Rattle.lit_solve.specs.Box.{box_with, events_on}
use Rattle.lit_solve.proofs.FrameLemmas.{one_more}
use Rattle.lit_why.specs.Internal.Relations.{IsGivenAt}
use Rattle.lit_why.proofs.RelationLemmas.{given_in}
use Rattle.lit_why.proofs.TrialLemmas.{reads_len}
use Rattle.lit_why.proofs.cases.given.reads_of.Goals as goal

pub loop-place-preserved : goal.loop-place-preserved
loop-place-preserved c = record {
  len = c.put_read.ensures.len ∙ c.loop-place.invariant.len;
  pairs = λ r w.
      one_more (λ k. IsGivenAt (box_with c.args.problem.now c.args.domains.now) k r w) c.loop-place.place (Holds c.loop-place.rows r w)
      (Holds c.put_read.new.rows r w) (c.loop-place.invariant.pairs r w) (c.put_read.ensures.pairs r w);
}

pub returns-clause-pairs : goal.returns-clause-pairs
returns-clause-pairs c r w =
    let p = c.args.problem.now in
    let long = reads_len p c.combination-2.result.now c.byte_reads-place-end.result.now c.byte_reads-place-end.ensures
    c.combination-2.ensures in
    let all : c.loop-place.place ≡ length (byte_reads (events_on p)) =
    omega (arith, c.loop-place-test.false, c.loop-place.auto.place-end, long) in
    let so_far = c.loop-place.invariant.pairs r w in
    let given = given_in (box_with p c.args.domains.now) c.loop-place.place r w all in
    (λ h. given.0 (so_far.0 h), λ h. so_far.1 (given.1 h))
