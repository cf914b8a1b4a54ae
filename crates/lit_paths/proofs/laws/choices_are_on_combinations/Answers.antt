use Rattle.lit_paths.proofs.PlanFacts.{of_numbered}
use Rattle.lit_paths.proofs.laws.choices_are_on_combinations.Goals as goal

pub returns : goal.returns
returns c = of_numbered
