use Rattle.std.proofs.Common.{◌≡◌, ◌∙◌, ap, subst, sym}
use Rattle.lit_syntax.specs.Syntax.{Litmus}
use Rattle.lit_search.specs.Reported.{IsReported}
use Rattle.lit_interleave.specs.Interleaving.{interleaved}
use Rattle.lit_report.specs.ReportText.{interleaving_text}
use Rattle.jslit.specs.Schedule.{NamesAgents}
use Rattle.jslit.proofs.laws.schedules_are_reported.Goals as goal

pub returns-clause-reported : goal.returns-clause-reported
returns-clause-reported c schedule text answer whole is on =
    let same : is.test ≡ on.test = c.spells_one_test.ensures text is.test on.test is.spelled on.spelled in
    let litmus = c.spells_within_limits.ensures text on.test on.spelled in
    let named : NamesAgents on.test schedule is.agents = subst (λ (t : Litmus). NamesAgents t schedule is.agents) same is.named in
    let got : IsReported on.test is.agents on.of_test.report = c.interleavings_are_reported.ensures on.test is.agents on.of_test.report litmus named.known on.of_test.reported in
    (got.0, got.1, got.2, is.is ∙ ap (λ (t : Litmus). interleaving_text t (interleaved t is.agents)) same ∙ ap (interleaving_text on.test) (sym got.3))

pub returns-clause-some : goal.returns-clause-some
returns-clause-some c text whole on = c.reports_have_an_entry.ensures on.test on.of_test.report (c.spells_within_limits.ensures text on.test on.spelled) on.of_test.reported
