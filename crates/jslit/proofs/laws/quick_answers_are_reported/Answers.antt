use Rattle.jslit.proofs.QuickAnswers.{first_reported}
use Rattle.jslit.proofs.laws.quick_answers_are_reported.Goals as goal

pub returns : goal.returns
returns c t class entry report first reported = first_reported t class entry report first reported
