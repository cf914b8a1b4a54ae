use Rattle.lit_paths.proofs.PlanFacts.{walk_in-known}
use Rattle.lit_paths.proofs.laws.combinations_are_walked.Goals as goal

pub returns : goal.returns
returns c = walk_in-known
