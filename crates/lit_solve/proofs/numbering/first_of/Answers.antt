use Rattle.lit_paths.proofs.ChoiceNumbers.{known_by_first}
use Rattle.lit_solve.proofs.numbering.first_of.Goals as goal

pub returns-clause-known : goal.returns-clause-known
returns-clause-known c = known_by_first _ _ c.first.result c.first.ensures.value c.first.ensures.known

pub returns-clause-numbers : goal.returns-clause-numbers
returns-clause-numbers c = c.choices_have_numbers.ensures _ _ (returns-clause-known c)

pub returns-clause-of : goal.returns-clause-of
returns-clause-of c n = c.choices_are_on_combinations.ensures _ n _ (returns-clause-known c)
