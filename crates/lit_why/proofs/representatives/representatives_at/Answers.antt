use Rattle.std.proofs.lemmas.Bool.{false≢true}
use Rattle.std.proofs.Common.{sym, ◌∙◌}
use Rattle.lit_paths.specs.ByteReads.{byte_read_at}
use Rattle.lit_rel.proofs.SetLemmas.{split_less}
use Rattle.lit_solve.specs.Box.{events_on}
use Rattle.lit_solve.proofs.ReadByteLemmas.{matching_more, matching_same}
use Rattle.lit_why.specs.Internal.Trials.{IsRepresentative}
use Rattle.lit_why.proofs.representatives.representatives_at.Goals as goal

pub loop-source-smaller : goal.loop-source-smaller
loop-source-smaller c = split_less c.loop-source.left c.in-Some.source c.in-Some.others c.in-Some.ensures

pub loop-source-smaller-then-is_representative : goal.loop-source-smaller-then-is_representative
loop-source-smaller-then-is_representative c = split_less c.loop-source.left c.in-Some.source c.in-Some.others c.in-Some.ensures

pub loop-source-preserved-then-is_representative : goal.loop-source-preserved-then-is_representative
loop-source-preserved-then-is_representative c = record {
  left = λ v h. c.loop-source.invariant.left v ((c.in-Some.ensures.rest v).0 h).0;
  first = matching_more c.candidates_of-candidates.result c.loop-source.left c.in-Some.others c.loop-source.first
      (IsRepresentative c.args.combination.now (byte_read_at (events_on c.args.combination.now) c.args.place))
      c.in-Some.source c.in-Some.ensures c.loop-source.invariant.first c.with-first.result
      (c.loop-source.invariant.left c.in-Some.source c.in-Some.ensures.there)
      (c.is_representative.ensures.0 c.if-is_representative.true) c.with-first.ensures;
}

pub loop-source-preserved : goal.loop-source-preserved
loop-source-preserved c = record {
  left = λ v h. c.loop-source.invariant.left v ((c.in-Some.ensures.rest v).0 h).0;
  first = matching_same c.candidates_of-candidates.result c.loop-source.left c.in-Some.others c.loop-source.first
      (IsRepresentative c.args.combination.now (byte_read_at (events_on c.args.combination.now) c.args.place))
      c.in-Some.source c.in-Some.ensures c.loop-source.invariant.first
      (λ is. false≢true (sym c.if-is_representative.false ∙ c.is_representative.ensures.1 is));
}

pub returns : goal.returns
returns c w = (
  λ there. ((c.loop-source.invariant.first w).0 there).1,
  λ is. (c.loop-source.invariant.first w).1 ((c.candidates_of-candidates.ensures w).1 is.candidate, is, c.in_default.ensures w),
)
