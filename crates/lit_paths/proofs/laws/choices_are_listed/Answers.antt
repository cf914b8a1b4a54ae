use Rattle.lit_paths.proofs.ChoiceLists.{lists_choices}
use Rattle.lit_paths.proofs.laws.choices_are_listed.Goals as goal

pub returns : goal.returns
returns c = lists_choices
