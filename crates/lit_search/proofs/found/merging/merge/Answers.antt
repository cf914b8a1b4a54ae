use Rattle.lit_search.proofs.Reports.{IsReport-merged}
use Rattle.lit_search.proofs.found.merging.merge.Goals as goal

pub returns-clause-reported : goal.returns-clause-reported
returns-clause-reported c t some others h k =
    IsReport-merged t some others c.args.a c.args.b c.in_ok-with_both.field-0 h k c.in_ok-with_both.ensures
