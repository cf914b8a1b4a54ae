use Rattle.lit_rel.specs.Growth.{GivenBy}
use Rattle.lit_rel.proofs.GrowthLemmas.{value-given}
use Rattle.lit_rel.proofs.laws.given_values_agree.Goals as goal

pub returns : goal.returns
returns c events given = value-given events (GivenBy given)
