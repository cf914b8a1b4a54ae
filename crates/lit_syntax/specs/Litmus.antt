-- The test that a value of the program's type `Test` represents.
use Rattle.std.specs.Prelude.{ℕ, List, [], ◌∷◌, map, string_bytes, String}
use Rattle.std.specs.Global.{Vec, Global}
use Rattle.lit_syntax.specs.declared.syntax.View.{View}
use Rattle.lit_syntax.specs.declared.syntax.View.TheVariants as view
use Rattle.lit_syntax.specs.declared.syntax.Stmt.{Stmt, Row_of-Stmt, end_of-Stmt, more_of-Stmt}
use Rattle.lit_syntax.specs.declared.syntax.Stmt as stmt
use Rattle.lit_syntax.specs.declared.syntax.Cond.{Cond, Row_of-Cond, end_of-Cond, more_of-Cond}
use Rattle.lit_syntax.specs.declared.syntax.Cond as cond
use Rattle.lit_syntax.specs.Syntax.{Window, Uint8, Uint16, Uint32, DataView8, DataView16, DataView32}
use Rattle.lit_syntax.specs.Syntax.{Statement, Statements, Load, Store, Exchange, CompareExchange, If, End, Then}
use Rattle.lit_syntax.specs.Syntax.{Condition, Conditions, Any, All, Not, Is, NoMore, Also, Agent, Litmus}
use Rattle.lit_syntax.specs.declared.test.Test.TheInside.{Inside}

abbrev pub window_of : View → Window
window_of view.U8 = Uint8
window_of view.U16 = Uint16
window_of view.U32 = Uint32
window_of view.D8 = DataView8
window_of view.D16 = DataView16
window_of view.D32 = DataView32

abbrev mutual
  pub statement_of : Stmt → Statement
  statement_of (stmt.Load reg view index atomic) = Load reg (window_of view) index atomic
  statement_of (stmt.Store view index value atomic) = Store (window_of view) index value atomic
  statement_of (stmt.Exchange reg view index value) = Exchange reg (window_of view) index value
  statement_of (stmt.CompareExchange reg view index expected value) = CompareExchange reg (window_of view) index expected value
  statement_of (stmt.If' reg equal value _ body _ other) = If reg equal value (part_of body) (part_of other)

  -- the statements of a part of an `if`
  pub part_of : {m : _} → Row_of-Stmt m → Statements
  part_of end_of-Stmt = End
  part_of (more_of-Stmt s rest) = Then (statement_of s) (part_of rest)

abbrev pub statements_of : List Stmt → Statements
statements_of [] = End
statements_of (s ∷ ss) = Then (statement_of s) (statements_of ss)

abbrev mutual
  pub condition_of : Cond → Condition
  condition_of (cond.Any' _ members) = Any (conditions_of members)
  condition_of (cond.All' _ members) = All (conditions_of members)
  condition_of (cond.Not' _ member) = Not (condition_of member)
  condition_of (cond.Is agent reg equal value) = Is agent reg equal value

  -- the members of an Any or an All
  pub conditions_of : {m : _} → Row_of-Cond m → Conditions
  conditions_of end_of-Cond = NoMore
  conditions_of (more_of-Cond c rest) = Also (condition_of c) (conditions_of rest)

abbrev pub conditions_view : List Cond → Conditions
conditions_view [] = NoMore
conditions_view (c ∷ cs) = Also (condition_of c) (conditions_view cs)

abbrev pub agent_view : List ℕ → List Stmt → Agent
agent_view name body = record { name = name; body = statements_of body }

abbrev pub agents_view : List (String Global × Vec Stmt) → List Agent
agents_view entries = map (λ e. agent_view (string_bytes e.0) e.1.items) entries

-- the test of these parts
abbrev pub litmus_with : List ℕ → ℕ → List Agent → Condition → Litmus
litmus_with name bytes agents check = record { name = name; bytes = bytes; agents = agents; check = check }

abbrev pub litmus_of : Inside → Litmus
litmus_of t = litmus_with (string_bytes t.name) t.bytes (agents_view t.agents.entries) (condition_of t.check)
