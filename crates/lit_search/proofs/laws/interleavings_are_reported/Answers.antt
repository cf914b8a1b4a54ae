use Rattle.lit_search.proofs.Reports.{is_reported}
use Rattle.lit_search.proofs.laws.interleavings_are_reported.Goals as goal

pub returns : goal.returns
returns c = λ t schedule report litmus known. is_reported c.laws_below.ensures t schedule report (c.interleavings_are_valid.ensures t schedule litmus known)
