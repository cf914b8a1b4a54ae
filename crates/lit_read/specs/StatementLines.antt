-- The lines of a text on which its statements begin (this project's own).
use Rattle.std.specs.Prelude.{◌≡◌, ℕ, ◌+◌, ◌-◌, ◌<◌, ◌≤◌, Bool, true, false, List, [], Some, slice_get, slice_index_or}
use Rattle.lit_syntax.specs.Syntax.{Litmus, agent_of}
use Rattle.lit_read.specs.Lines.{lines_of}
use Rattle.lit_syntax.specs.Forms.{Form, StatementLine, IfLine, HasForm}
use Rattle.lit_syntax.specs.StatementOrder.{statements_begun, statements_before}

-- whether a statement begins with a line of this form: an access has one line, and an `if` has an `if` line first
abbrev pub begins_statement : Form → Bool
begins_statement (StatementLine s) = true
begins_statement (IfLine reg equal value) = true
begins_statement _ = false

-- a statement begins with the line
pub record BeginsStatement (line : List ℕ) : Type 0 where
  pub form : Form
  pub has : HasForm line form
  pub begins : begins_statement form ≡ true

-- a statement begins on a line of the text, by the line's number from 1
pub record IsStatementLine (text : List ℕ) (n : ℕ) : Type 0 where
  pub counted : 1 ≤ n
  pub line : List ℕ
  pub listed : slice_get (lines_of text) (n - 1) ≡ Some line
  pub begun : BeginsStatement line

-- exactly the lines on which a statement begins, rising
pub record ListsStatementLines (text lines : List ℕ) : Type 0 where
  pub only : (k n : ℕ) → slice_get lines k ≡ Some n → IsStatementLine text n
  pub all : (n : ℕ) → IsStatementLine text n → (k : ℕ) × (slice_get lines k ≡ Some n)
  pub rising : (i j m n : ℕ) → i < j → slice_get lines i ≡ Some m → slice_get lines j ≡ Some n → m < n

-- the line with a number, from 1
abbrev pub line_of : List ℕ → ℕ → List ℕ
line_of text n = slice_index_or (lines_of text) (n - 1) []

-- Statement k of an agent begins on line n: this is the line listed for it, and it has the statement's first form.
pub record BeginsOnLine (text : List ℕ) (t : Litmus) (lines : List ℕ) (agent k n : ℕ) : Type 0 where
  pub listed : slice_get lines (statements_before t agent + k) ≡ Some n
  pub form : Form
  pub first : slice_get (statements_begun (agent_of t agent).body) k ≡ Some form
  pub has : HasForm (line_of text n) form
