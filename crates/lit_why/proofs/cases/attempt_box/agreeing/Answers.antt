use Rattle.std.proofs.Common.{sym, ◌∙◌}
use Rattle.std.proofs.lemmas.Bool.{false≢true}
use Rattle.std.specs.Prelude.{IsTrue}
use Rattle.lit_rel.proofs.SetLemmas.{split_less}
use Rattle.lit_solve.proofs.ReadByteLemmas.{matching_more, matching_same}
use Rattle.lit_why.specs.Attempts.{agree}
use Rattle.lit_why.proofs.cases.attempt_box.agreeing.Goals as goal

pub loop-event-smaller : goal.loop-event-smaller
loop-event-smaller c = split_less c.loop-event.left c.in-Some.event c.in-Some.others c.in-Some.ensures

pub loop-event-smaller-then-do_agree : goal.loop-event-smaller-then-do_agree
loop-event-smaller-then-do_agree c = split_less c.loop-event.left c.in-Some.event c.in-Some.others c.in-Some.ensures

pub loop-event-preserved-then-do_agree : goal.loop-event-preserved-then-do_agree
loop-event-preserved-then-do_agree c = record {
  left = λ v h. c.loop-event.invariant.left v ((c.in-Some.ensures.rest v).0 h).0;
  agreeing = matching_more c.args.among c.loop-event.left c.in-Some.others c.loop-event.agreeing
      (λ v. IsTrue (agree c.args.asked c.args.events.now c.args.byte c.args.source v))
      c.in-Some.event c.in-Some.ensures c.loop-event.invariant.agreeing c.with-agreeing.result
      (c.loop-event.invariant.left c.in-Some.event c.in-Some.ensures.there)
      (sym c.do_agree.ensures ∙ c.if-do_agree.true) c.with-agreeing.ensures;
}

pub loop-event-preserved : goal.loop-event-preserved
loop-event-preserved c = record {
  left = λ v h. c.loop-event.invariant.left v ((c.in-Some.ensures.rest v).0 h).0;
  agreeing = matching_same c.args.among c.loop-event.left c.in-Some.others c.loop-event.agreeing
      (λ v. IsTrue (agree c.args.asked c.args.events.now c.args.byte c.args.source v))
      c.in-Some.event c.in-Some.ensures c.loop-event.invariant.agreeing
      (λ is. false≢true (sym c.if-do_agree.false ∙ c.do_agree.ensures ∙ is));
}

pub returns : goal.returns
returns c w = (
  λ there. let all = (c.loop-event.invariant.agreeing w).0 there in (all.0, all.1),
  λ both. (c.loop-event.invariant.agreeing w).1 (both.0, both.1, c.in_default.ensures w),
)
