use Rattle.lit_search.proofs.Reports.{IsReport-same}
use Rattle.lit_search.proofs.laws.reports_go_by_choices.Goals as goal

pub returns : goal.returns
returns c = IsReport-same
