use Rattle.lit_search.proofs.Words.{ap, Collected, Entry, HasTaken, List, risen, subst, sym, ◌∙◌, ◌≡◌, ◌≤◌}
use Rattle.lit_search.proofs.GainLemmas.{cut_back, taken_more}
use Rattle.lit_search.proofs.collector.Collector.take.Goals as goal

pub returns-in-Ok-clause-taken : goal.returns-in-Ok-clause-taken
returns-in-Ok-clause-taken g c taken h =
    let x = c.self.inside in
    taken_more x.plan.now taken x.end c.args.from c.args.to x.table c.record.new.table x.race c.in-Ok.race
    (subst (λ (y : Collected). y.end ≤ c.args.from) (sym c.self.view_is) c.requires.follows) c.requires.order c.len-count.ensures.distinct
    c.in-Ok.ensures.gains (subst (HasTaken taken) (sym c.self.view_is) h)

pub returns-in-Err-clause-refused : goal.returns-in-Err-clause-refused
returns-in-Err-clause-refused g c =
    let x = c.self.inside in
    let back : c.truncate.new.self ≡ x.table =
    c.truncate.ensures ∙ cut_back x.table c.record.new.table c.len-count.result c.len-count.ensures.len c.record.ensures.goes_on in
    ap (λ (es : List Entry). record { test = x.plan.now; end = x.end; report = record { entries = risen es; race = x.race } }) back ∙ c.self.view_is
