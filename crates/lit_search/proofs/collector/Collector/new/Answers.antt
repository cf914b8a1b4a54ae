use Rattle.lit_search.proofs.Words.{[], Entry, false, false≢true, Gains, in_none, IsTrue, List, subst, sym}
use Rattle.lit_search.proofs.GainLemmas.{gains_none, reported}
use Rattle.lit_search.proofs.collector.Collector.new.Goals as goal

pub returns-clause-taken : goal.returns-clause-taken
returns-clause-taken c = record {
  below = λ n inside. absurd (false≢true inside);
  reported = reported c.args.plan.now in_none c.new.result false
      (subst (λ (es : List Entry). Gains c.args.plan.now (λ n. IsTrue (in_none n)) [] es false false) (sym c.new.ensures)
      (gains_none c.args.plan.now (λ n. IsTrue (in_none n)) [] false (λ n inside. false≢true inside)));
}
