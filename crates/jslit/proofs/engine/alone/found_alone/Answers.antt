use Rattle.std.proofs.Common.{ℕ, subst}
use Rattle.lit_search.specs.Report.{IsReport, in_range}
use Rattle.jslit.proofs.engine.alone.found_alone.Goals as goal

pub returns-clause-reported : goal.returns-clause-reported
returns-clause-reported c =
    subst (λ (n : ℕ). IsReport c.args.plan.now (in_range 0 n) c.in_ok-found.found) c.total.ensures.value c.in_ok-found.ensures
