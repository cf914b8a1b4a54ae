use Rattle.lit_read.proofs.Parentheses.{same_but_parentheses}
use Rattle.lit_read.proofs.TestForms.{same_but_elses}
use Rattle.lit_read.proofs.laws.differ_by_nothing_else.Goals as goal

pub returns-clause-elses : goal.returns-clause-elses
returns-clause-elses c = same_but_elses

pub returns-clause-parentheses : goal.returns-clause-parentheses
returns-clause-parentheses c = same_but_parentheses
