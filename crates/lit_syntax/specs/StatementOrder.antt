-- Statements in the order in which they are written: agents in order; an `if` first, then the statements of its
-- then-part, and then those of its else-part (this project's own).
use Rattle.std.specs.Prelude.{ℕ, ◌+◌, List, [], ◌∷◌, ◌++◌, take}
use Rattle.lit_syntax.specs.Trees.{Statement, Statements, Load, Store, Exchange, CompareExchange, If, End, Then, Agent, Litmus}
use Rattle.lit_syntax.specs.Forms.{Form, StatementLine, IfLine}

-- how many statements there are: an `if` is one, and the statements of its parts are more
abbrev mutual
  pub count_with_parts : Statement → ℕ
  count_with_parts (If reg equal value body other) = 1 + statement_count body + statement_count other
  count_with_parts (Load reg window index atomic) = 1
  count_with_parts (Store window index value atomic) = 1
  count_with_parts (Exchange reg window index value) = 1
  count_with_parts (CompareExchange reg window index expected value) = 1

  pub statement_count : Statements → ℕ
  statement_count End = 0
  statement_count (Then s ss) = count_with_parts s + statement_count ss

-- the form with which each begins, in order
abbrev mutual
  pub statement_begun : Statement → List Form
  statement_begun (If reg equal value body other) = IfLine reg equal value ∷ (statements_begun body ++ statements_begun other)
  statement_begun (Load reg window index atomic) = StatementLine (Load reg window index atomic) ∷ []
  statement_begun (Store window index value atomic) = StatementLine (Store window index value atomic) ∷ []
  statement_begun (Exchange reg window index value) = StatementLine (Exchange reg window index value) ∷ []
  statement_begun (CompareExchange reg window index expected value) = StatementLine (CompareExchange reg window index expected value) ∷ []

  pub statements_begun : Statements → List Form
  statements_begun End = []
  statements_begun (Then s ss) = statement_begun s ++ statements_begun ss

-- the same of agents
abbrev pub agents_count : List Agent → ℕ
agents_count [] = 0
agents_count (a ∷ others) = statement_count a.body + agents_count others

abbrev pub agents_begun : List Agent → List Form
agents_begun [] = []
agents_begun (a ∷ others) = statements_begun a.body ++ agents_begun others

-- the forms with which the statements of a test begin
abbrev pub forms_begun : Litmus → List Form
forms_begun t = agents_begun t.agents

-- how many statements stand before those of an agent
abbrev pub statements_before : Litmus → (agent : ℕ) → ℕ
statements_before t agent = agents_count (take agent t.agents)
