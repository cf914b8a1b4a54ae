use Rattle.lit_search.proofs.Words.{IfOk-weaker, in_none, in_range, IsReport, Litmus, Report, subst, sym, ◌∙◌}
use Rattle.lit_search.proofs.searching.search_range_with.Goals as goal

pub returns : goal.returns
returns g c =
    let taken = c.in_ok-take.ensures.taken in_none c.new-collector.ensures.taken in
    let reported = subst (λ (t : Litmus). IsReport t (in_range c.args.from c.args.to) c.take.new.self.report)
    (c.in_ok-take.ensures.test ∙ c.new-collector.ensures.test) taken.reported in
    let P : Report → Type 0 = IsReport c.args.plan.now (in_range c.args.from c.args.to) in
    IfOk-weaker c.into_found.result _ P (λ found is. subst P (sym is) reported) c.into_found.ensures
