use Rattle.jslit.proofs.OneAnswer.{one_answer}
use Rattle.jslit.proofs.laws.answers_are_unique.Goals as goal

pub returns : goal.returns
returns c quick text answer other a b = one_answer quick text answer other (c.spells_one_test.ensures text) c.reports_are_unique.ensures a b
