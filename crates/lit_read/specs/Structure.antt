-- Which forms, one after the other, are those of statements and of agents (this project's own).
use Rattle.std.specs.Prelude.{◌≡◌, ℕ, Bool, true, false, List, [], ◌∷◌, ◌++◌, ◌⊎◌}
use Rattle.lit_syntax.specs.Syntax.{Statement, Statements, If, End, Then, Agent}
use Rattle.lit_syntax.specs.Forms.{Form, AgentLine, StatementLine, IfLine, ElseLine, EndLine}

-- An access has one line. An `if` has its line, the lines of the then-part, an else line and the lines of the else-part, and
-- an end line. Where the else-part is empty, the else line may be left out.
abbrev mutual
  pub IsStatement : List Form → Statement → Type 0
  IsStatement forms (If reg equal value body other) =
      (thens elses : List Form) × (forms ≡ IfLine reg equal value ∷ (thens ++ (elses ++ EndLine ∷ []))) × AreStatements thens body
      × (((elses ≡ []) × (other ≡ End)) ⊎ ((lines : List Form) × (elses ≡ ElseLine ∷ lines) × AreStatements lines other))
  IsStatement forms access = forms ≡ StatementLine access ∷ []

  -- the lines of each statement, in order
  pub AreStatements : List Form → Statements → Type 0
  AreStatements forms End = forms ≡ []
  AreStatements forms (Then s ss) = (first others : List Form) × (forms ≡ first ++ others) × IsStatement first s × AreStatements others ss

-- each agent has its line and the lines of its statements
abbrev pub AreAgents : List Form → List Agent → Type 0
AreAgents forms [] = forms ≡ []
AreAgents forms (a ∷ others) =
    (body rest : List Form) × (forms ≡ AgentLine a.name ∷ (body ++ rest)) × AreStatements body a.body × AreAgents rest others

-- a line that can stand among an agent's statements
abbrev pub is_body_line : Form → Bool
is_body_line (StatementLine s) = true
is_body_line (IfLine reg equal value) = true
is_body_line ElseLine = true
is_body_line EndLine = true
is_body_line _ = false

-- What follows the line of an `if` that is open: the statements of its then-part so far; or a whole then-part, an else
-- line, and the statements of the else-part so far.
abbrev pub IsOpenPart : Bool → List Form → Type 0
IsOpenPart false forms = (body : Statements) × AreStatements forms body
IsOpenPart true forms =
    (thens elses : List Form) × (body other : Statements) × (forms ≡ thens ++ ElseLine ∷ elses) × AreStatements thens body
    × AreStatements elses other

-- The forms leave these `if`s open, the innermost first, each with whether its else line has come: they are statements,
-- and then, for each of these, the outermost first, its line and its open part.
abbrev pub LeaveOpen : List Bool → List Form → Type 0
LeaveOpen [] forms = (body : Statements) × AreStatements forms body
LeaveOpen (in_else ∷ opened) forms =
    (outer inner : List Form) × (reg : ℕ) × (equal : Bool) × (value : ℕ) × (forms ≡ outer ++ IfLine reg equal value ∷ inner)
    × LeaveOpen opened outer × IsOpenPart in_else inner
