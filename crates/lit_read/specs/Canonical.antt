-- The canonical forms of a test, with nothing in them that could be omitted (this project's own).
use Rattle.std.specs.Prelude.{Bool, true, false, if◌then◌else◌, List, [], ◌∷◌, ◌++◌}
use Rattle.lit_syntax.specs.Syntax.{Statement, Statements, Load, Store, Exchange, CompareExchange, If, End, Then, Agent, Litmus}
use Rattle.lit_syntax.specs.Forms.{Form, TestLine, BytesLine, AgentLine, StatementLine, IfLine, ElseLine, EndLine, CheckLine}
use Rattle.lit_syntax.specs.Parentheses.{written_of}

-- An else line stands only where the else-part has a statement.
abbrev mutual
  pub statement_forms : Statement → List Form
  statement_forms (If reg equal value body other) = IfLine reg equal value ∷ (statements_forms body ++ (else_forms other ++ EndLine ∷ []))
  statement_forms (Load reg window index atomic) = StatementLine (Load reg window index atomic) ∷ []
  statement_forms (Store window index value atomic) = StatementLine (Store window index value atomic) ∷ []
  statement_forms (Exchange reg window index value) = StatementLine (Exchange reg window index value) ∷ []
  statement_forms (CompareExchange reg window index expected value) = StatementLine (CompareExchange reg window index expected value) ∷ []

  pub statements_forms : Statements → List Form
  statements_forms End = []
  statements_forms (Then s ss) = statement_forms s ++ statements_forms ss

  pub else_forms : Statements → List Form
  else_forms End = []
  else_forms (Then s ss) = ElseLine ∷ (statement_forms s ++ statements_forms ss)

abbrev pub agents_forms : List Agent → List Form
agents_forms [] = []
agents_forms (a ∷ others) = AgentLine a.name ∷ (statements_forms a.body ++ agents_forms others)

-- the forms of a test
abbrev pub canonical_forms : Litmus → List Form
canonical_forms t = TestLine t.name ∷ BytesLine t.bytes ∷ (agents_forms t.agents ++ CheckLine (written_of t.agents t.check) ∷ [])

abbrev pub starts_with_end : List Form → Bool
starts_with_end (EndLine ∷ fs) = true
starts_with_end _ = false

-- the forms without the else lines that an end line follows directly
abbrev pub without_empty_elses : List Form → List Form
without_empty_elses [] = []
without_empty_elses (ElseLine ∷ fs) = if starts_with_end fs then without_empty_elses fs else ElseLine ∷ without_empty_elses fs
without_empty_elses (f ∷ fs) = f ∷ without_empty_elses fs
