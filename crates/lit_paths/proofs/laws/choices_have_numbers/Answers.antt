use Rattle.lit_paths.proofs.NumberLaws.{numbers_choices}
use Rattle.lit_paths.proofs.laws.choices_have_numbers.Goals as goal

pub returns : goal.returns
returns c = numbers_choices
