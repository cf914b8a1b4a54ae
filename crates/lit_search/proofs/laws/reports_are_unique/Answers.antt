use Rattle.lit_search.proofs.Reports.{IsReport-unique}
use Rattle.lit_search.proofs.laws.reports_are_unique.Goals as goal

pub returns : goal.returns
returns c = IsReport-unique
