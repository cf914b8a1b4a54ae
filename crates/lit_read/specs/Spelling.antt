-- Which test a text spells (this project's own).
use Rattle.std.specs.Prelude.{◌≡◌, ℕ, ◌+◌, if◌then◌else◌, List, [], ◌∷◌, ◌++◌}
use Rattle.std.specs.List.{AllZip}
use Rattle.std.specs.Str.{bytes_eq}
use Rattle.lit_read.specs.declared.fault.ReadKind.{ReadKind}
use Rattle.lit_syntax.specs.Syntax.{Condition, Conditions, Any, All, Not, Is, NoMore, Also, Agent, Litmus}
use Rattle.lit_read.specs.Lines.{lines_of}
use Rattle.lit_syntax.specs.Written.{Operand, Compared, Negated, Grouped, Conjunction, Lone, Both, Written, Single, Either}
use Rattle.lit_syntax.specs.Forms.{Form, TestLine, BytesLine, CheckLine, HasForm, without_blanks}
use Rattle.lit_read.specs.Structure.{AreAgents}
use Rattle.lit_read.specs.Faults.{HasFault}

-- the number of the agent with a name, from 0
abbrev pub place_of : List ℕ → List Agent → ℕ
place_of name [] = 0
place_of name (a ∷ others) = if bytes_eq name a.name then 0 else place_of name others + 1

-- What an operand asks: a parenthesis adds nothing, and a conjunction or condition of one member is that member.
abbrev mutual
  pub operand_value : List Agent → Operand → Condition
  operand_value agents (Compared c) = Is (place_of c.agent agents) c.reg c.equal c.value
  operand_value agents (Negated o) = Not (operand_value agents o)
  operand_value agents (Grouped w) = written_value agents w

  -- what a conjunction asks
  pub conjunction_value : List Agent → Conjunction → Condition
  conjunction_value agents (Lone o) = operand_value agents o
  conjunction_value agents (Both o c) = All (Also (operand_value agents o) (operand_values agents c))

  -- what a condition asks
  pub written_value : List Agent → Written → Condition
  written_value agents (Single c) = conjunction_value agents c
  written_value agents (Either c w) = Any (Also (conjunction_value agents c) (conjunction_values agents w))

  -- what each operand asks
  pub operand_values : List Agent → Conjunction → Conditions
  operand_values agents (Lone o) = Also (operand_value agents o) NoMore
  operand_values agents (Both o c) = Also (operand_value agents o) (operand_values agents c)

  -- what each conjunction asks
  pub conjunction_values : List Agent → Written → Conditions
  conjunction_values agents (Single c) = Also (conjunction_value agents c) NoMore
  conjunction_values agents (Either c w) = Also (conjunction_value agents c) (conjunction_values agents w)

-- The forms, none of them blank, are those of the test in order.
pub record AreFormsOf (forms : List Form) (t : Litmus) : Type 0 where
  pub agents : List Form
  pub check : Written
  pub parts : forms ≡ TestLine t.name ∷ BytesLine t.bytes ∷ (agents ++ CheckLine check ∷ [])
  pub bodies : AreAgents agents t.agents
  pub asks : t.check ≡ written_value t.agents check

-- The text has no fault, and its lines without the blank ones are those of the test.
pub record Spells (text : List ℕ) (t : Litmus) : Type 0 where
  pub faultless : (kind : ReadKind) (line : ℕ) → ¬ HasFault text kind line
  pub forms : List Form
  pub lines : AllZip HasForm (lines_of text) forms
  pub are : AreFormsOf (without_blanks forms) t
