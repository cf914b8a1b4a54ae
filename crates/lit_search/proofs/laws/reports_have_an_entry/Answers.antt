use Rattle.lit_search.proofs.Words.{[]}
use Rattle.lit_search.proofs.Reports.{some_entry}
use Rattle.lit_search.proofs.laws.reports_have_an_entry.Goals as goal

pub returns : goal.returns
returns c = λ t report litmus reports. some_entry t report (λ known. c.interleavings_are_reported.ensures t [] report litmus known reports)
