use Rattle.lit_syntax.proofs.CountLemmas.{statements_counted}
use Rattle.lit_read.proofs.StatementForms.{lines_have_forms, lines_counted, statement_on_line}
use Rattle.lit_read.proofs.laws.statements_have_lines.Goals as goal

pub returns-clause-forms : goal.returns-clause-forms
returns-clause-forms c = lines_have_forms

pub returns-clause-count : goal.returns-clause-count
returns-clause-count c = lines_counted

pub returns-clause-each : goal.returns-clause-each
returns-clause-each c = statement_on_line

pub returns-clause-begun : goal.returns-clause-begun
returns-clause-begun c = statements_counted
