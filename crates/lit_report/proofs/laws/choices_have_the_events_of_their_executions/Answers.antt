use Rattle.lit_report.proofs.ChosenEvents.{chosen_events}
use Rattle.lit_report.proofs.laws.choices_have_the_events_of_their_executions.Goals as goal

pub returns : goal.returns
returns c t x is = chosen_events t (c.combinations_are_listed.ensures t) x is (c.candidate_executions_have_choices.ensures t x is)
