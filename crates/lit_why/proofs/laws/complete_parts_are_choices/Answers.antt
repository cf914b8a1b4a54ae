use Rattle.lit_why.proofs.ShownLemmas.{completed_gives, given_completes, race_of_part}
use Rattle.lit_why.proofs.laws.complete_parts_are_choices.Goals as goal

pub returns-clause-outcome : goal.returns-clause-outcome
returns-clause-outcome c part n of has complete =
    (completed_gives part n of has complete, λ some. given_completes part n of has complete some.0 some.1)

pub returns-clause-race : goal.returns-clause-race
returns-clause-race c part n of has complete = race_of_part part n of has complete
