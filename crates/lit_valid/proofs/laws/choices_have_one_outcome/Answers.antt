use Rattle.lit_valid.proofs.OneOutcome.{one_outcome}
use Rattle.lit_valid.proofs.laws.choices_have_one_outcome.Goals as goal

pub returns : goal.returns
returns c = one_outcome c.laws_below.ensures
