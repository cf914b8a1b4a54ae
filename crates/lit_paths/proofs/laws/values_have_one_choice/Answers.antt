use Rattle.lit_paths.proofs.RunPaths.{values-one_choice}
use Rattle.lit_paths.proofs.laws.values_have_one_choice.Goals as goal

pub returns : goal.returns
returns c = values-one_choice
