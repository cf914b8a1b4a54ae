use Rattle.lit_paths.proofs.PathLists.{lists_combinations}
use Rattle.lit_paths.proofs.laws.combinations_are_listed.Goals as goal

pub returns : goal.returns
returns c = lists_combinations
