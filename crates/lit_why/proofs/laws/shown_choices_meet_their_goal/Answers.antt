use Rattle.lit_why.proofs.ShownLemmas.{no_class, no_race, shown_class, shown_race}
use Rattle.lit_why.proofs.laws.shown_choices_meet_their_goal.Goals as goal

pub returns-clause-class : goal.returns-clause-class
returns-clause-class c = shown_class c.laws_below.ensures

pub returns-clause-no_class : goal.returns-clause-no_class
returns-clause-no_class c = no_class c.laws_below.ensures

pub returns-clause-race : goal.returns-clause-race
returns-clause-race c = shown_race c.laws_below.ensures

pub returns-clause-no_race : goal.returns-clause-no_race
returns-clause-no_race c = no_race c.laws_below.ensures
