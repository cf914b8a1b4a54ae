use Rattle.jslit.proofs.Completeness.{complete}
use Rattle.jslit.proofs.laws.reports_are_complete.Goals as goal

pub returns : goal.returns
returns c t report is = complete t report (c.candidate_executions_have_choices.ensures t) (c.choices_are_listed.ensures t) is
