use Rattle.lit_why.proofs.VerdictLemmas.{one_back, one_itself, one_through}
use Rattle.lit_why.proofs.laws.attempts_part_the_choices.Goals as goal

pub returns-clause-itself : goal.returns-clause-itself
returns-clause-itself c = one_itself c.laws_below.ensures

pub returns-clause-back : goal.returns-clause-back
returns-clause-back c = one_back c.laws_below.ensures

pub returns-clause-through : goal.returns-clause-through
returns-clause-through c = one_through
