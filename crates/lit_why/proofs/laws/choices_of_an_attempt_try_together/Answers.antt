use Rattle.lit_why.proofs.SameValueLemmas.{try_together}
use Rattle.lit_why.proofs.laws.choices_of_an_attempt_try_together.Goals as goal

pub returns : goal.returns
returns c = try_together c.laws_below.ensures
