-- The faults of a text (this project's own). The first faulty line decides, and of one line's faults the lowest number.
use Rattle.std.specs.Prelude.{◌≡◌, ◌⊎◌, ℕ, ◌-◌, ◌<◌, ◌≤◌, ◌==◌, ◌&&◌, ◌||◌, nat_lt, nat_le, Bool, true, false, IsTrue}
use Rattle.std.specs.Prelude.{if◌then◌else◌, List, [], ◌∷◌, ◌++◌, length, slice_index_or, take, not, fold, Option, Some, None, is_none}
use Rattle.std.specs.List.{AllZip, list_any, list_all}
use Rattle.std.specs.Option.{unwrap_or}
use Rattle.std.specs.Str.{bytes_eq}
use Rattle.lit_read.specs.declared.fault.ReadKind.{ReadKind}
use Rattle.lit_read.specs.declared.fault.ReadKind.TheVariants.{TooLong, NotAscii, Syntax, Misplaced, BlockSize, TooManyAgents}
use Rattle.lit_read.specs.declared.fault.ReadKind.TheVariants.{DuplicateAgent, LiteralRange, OutOfBlock}
use Rattle.lit_read.specs.declared.fault.ReadKind.TheVariants.{UnknownName, TooDeep, MissingPart, OutOfMemory}
use Rattle.lit_syntax.specs.declared.limits.TheConstants.{TEXT_LIMIT, BLOCK_LIMIT, AGENT_LIMIT, COMPARED_LIMIT, IF_LIMIT}
use Rattle.lit_syntax.specs.declared.limits.TheConstants.{DEPTH_LIMIT}
use Rattle.lit_syntax.specs.Syntax.{is_in_block, fits_window, Statement, Load, Store, Exchange, CompareExchange, If, statement_writes}
use Rattle.lit_syntax.specs.Tokens.{begins_with}
use Rattle.lit_read.specs.Lines.{lines_of}
use Rattle.lit_syntax.specs.Written.{written_depths}
use Rattle.lit_syntax.specs.Forms.{Form, Blank, TestLine, BytesLine, AgentLine, StatementLine, IfLine}
use Rattle.lit_syntax.specs.Forms.{ElseLine, EndLine, CheckLine, HasForm, without_blanks}

-- the numbers of the faults
abbrev pub number_of : ReadKind → ℕ
number_of TooLong = 1
number_of NotAscii = 2
number_of Syntax = 3
number_of Misplaced = 4
number_of BlockSize = 5
number_of TooManyAgents = 6
number_of DuplicateAgent = 7
number_of LiteralRange = 8
number_of OutOfBlock = 9
number_of UnknownName = 10
number_of TooDeep = 11
number_of MissingPart = 12
number_of OutOfMemory = 16

-- the bytes that may stand in a line
abbrev pub is_allowed : ℕ → Bool
is_allowed b = b == 9 || b == 10 || b == 13 || (nat_le 32 b && nat_le b 126)

-- ---- what the forms so far say: none of them is blank

-- whether a form is a check line
abbrev pub is_check_line : Form → Bool
is_check_line (CheckLine w) = true
is_check_line _ = false

-- whether the last of the forms is a test line
abbrev pub ends_in_test : List Form → Bool
ends_in_test [] = false
ends_in_test (TestLine name ∷ []) = true
ends_in_test (f ∷ []) = false
ends_in_test (f ∷ g ∷ fs) = ends_in_test (g ∷ fs)

-- how many bytes the block has, once a bytes line has come
abbrev pub block_of : List Form → Option ℕ
block_of [] = None
block_of (BytesLine bytes ∷ fs) = Some bytes
block_of (f ∷ fs) = block_of fs

-- the names of the agents
abbrev pub names_of : List Form → List (List ℕ)
names_of [] = []
names_of (AgentLine name ∷ fs) = name ∷ names_of fs
names_of (f ∷ fs) = names_of fs

-- whether a list has no member
abbrev pub is_empty : {A : Type 0} → List A → Bool
is_empty [] = true
is_empty (x ∷ xs) = false

-- whether an agent has begun, and no check line has come
abbrev pub is_begun : List Form → Bool
is_begun given = not (is_empty (names_of given)) && not (list_any is_check_line given)

-- The `if`s that are open behind a form, the innermost first, from those before it: whether the else line has come.
abbrev pub open_behind : List Bool → Form → List Bool
open_behind opened (IfLine reg equal value) = false ∷ opened
open_behind (in_else ∷ opened) ElseLine = true ∷ opened
open_behind (in_else ∷ opened) EndLine = opened
open_behind opened _ = opened

-- the `if`s that are open behind the forms
abbrev pub open_ifs : List Form → List Bool
open_ifs given = fold open_behind [] given

-- whether a line up to the next agent's line writes the register
abbrev pub lines_write : ℕ → List Form → Bool
lines_write reg [] = false
lines_write reg (AgentLine name ∷ fs) = false
lines_write reg (StatementLine s ∷ fs) = statement_writes s reg || lines_write reg fs
lines_write reg (f ∷ fs) = lines_write reg fs

-- whether the first agent of this name writes the register (decision 6)
abbrev pub agent_writes : List ℕ → ℕ → List Form → Bool
agent_writes name reg [] = false
agent_writes name reg (AgentLine agent ∷ fs) = if bytes_eq name agent then lines_write reg fs else agent_writes name reg fs
agent_writes name reg (f ∷ fs) = agent_writes name reg fs

-- ---- the faults of a form behind these forms

-- whether a form cannot stand behind these; an else line stands where the innermost open `if` has none yet
abbrev pub is_misplaced : List Form → Form → Bool
is_misplaced given Blank = false
is_misplaced given (TestLine name) = not (is_empty given)
is_misplaced given (BytesLine bytes) = not (ends_in_test given)
is_misplaced given (AgentLine name) = is_none (block_of given) || list_any is_check_line given || not (is_empty (open_ifs given))
is_misplaced given (StatementLine s) = not (is_begun given)
is_misplaced given (IfLine reg equal value) = not (is_begun given)
is_misplaced given ElseLine = not (is_begun given) || not (begins_with not (open_ifs given))
is_misplaced given EndLine = not (is_begun given) || is_empty (open_ifs given)
is_misplaced given (CheckLine w) = not (is_begun given) || not (is_empty (open_ifs given))

-- whether none of the forms is misplaced behind these and those of them that come before it
abbrev pub none_misplaced : List Form → List Form → Bool
none_misplaced given [] = true
none_misplaced given (f ∷ fs) = not (is_misplaced given f) && none_misplaced (given ++ f ∷ []) fs

-- whether a form writes a number that does not fit the element, or compares with one that no register can hold
abbrev pub has_large_literal : Form → Bool
has_large_literal (StatementLine (Store window index value atomic)) = not (fits_window window value)
has_large_literal (StatementLine (Exchange reg window index value)) = not (fits_window window value)
has_large_literal (StatementLine (CompareExchange reg window index expected value)) =
    not (fits_window window expected && fits_window window value)
has_large_literal (IfLine reg equal value) = nat_lt COMPARED_LIMIT value
has_large_literal (CheckLine w) = not (list_all (λ p. nat_le p.0.value COMPARED_LIMIT) (written_depths 0 w))
has_large_literal _ = false

-- whether an access lies wholly in a block of `bytes` bytes
abbrev pub stays_in_block : ℕ → Statement → Bool
stays_in_block bytes (Load reg window index atomic) = is_in_block bytes window index
stays_in_block bytes (Store window index value atomic) = is_in_block bytes window index
stays_in_block bytes (Exchange reg window index value) = is_in_block bytes window index
stays_in_block bytes (CompareExchange reg window index expected value) = is_in_block bytes window index
stays_in_block bytes (If reg equal value body other) = true

-- Whether a form has a fault, behind forms none of which is blank. Before the bytes line the block has no byte (decision 5).
unfoldable pub is_faulty : ReadKind → List Form → Form → Bool
is_faulty Misplaced given form = is_misplaced given form
is_faulty BlockSize given (BytesLine bytes) = bytes == 0 || nat_lt BLOCK_LIMIT bytes
is_faulty TooManyAgents given (AgentLine name) = nat_le AGENT_LIMIT (length (names_of given))
is_faulty DuplicateAgent given (AgentLine name) = list_any (λ n. bytes_eq name n) (names_of given)
is_faulty LiteralRange given form = has_large_literal form
is_faulty OutOfBlock given (StatementLine s) = not (stays_in_block (unwrap_or (block_of given) 0) s)
is_faulty UnknownName given (CheckLine w) = not (list_all (λ p. agent_writes p.0.agent p.0.reg given) (written_depths 0 w))
is_faulty TooDeep given (IfLine reg equal value) = nat_le IF_LIMIT (length (open_ifs given))
is_faulty TooDeep given (CheckLine w) = not (list_all (λ p. nat_le p.1 DEPTH_LIMIT) (written_depths 0 w))
is_faulty _ given form = false

-- ---- the faults of a line, and of a text

-- the line has the fault behind lines of these forms
unfoldable pub HasLineFault : ReadKind → List Form → List ℕ → Type 0
HasLineFault NotAscii before line = list_all is_allowed line ≡ false
HasLineFault Syntax before line = (form : Form) → ¬ HasForm line form
HasLineFault kind before line = (form : Form) × HasForm line form × IsTrue (is_faulty kind (without_blanks before) form)

-- The text has the fault at this line, from 1. The lines before it have forms, on which the fault may depend (decision 4).
unfoldable pub HasFault : List ℕ → ReadKind → ℕ → Type 0
HasFault text TooLong line = (TEXT_LIMIT < length text) × (line ≡ 1)
HasFault text MissingPart line =
    (line ≡ length (lines_of text)) × ((forms : List Form) × AllZip HasForm (lines_of text) forms × (list_any is_check_line forms ≡ false))
HasFault text OutOfMemory line = ⊥
HasFault text kind line =
    (before : List Form) × (1 ≤ line) × (line ≤ length (lines_of text)) × AllZip HasForm (take (line - 1) (lines_of text)) before
    × HasLineFault kind before (slice_index_or (lines_of text) (line - 1) [])

-- The fault is there, no fault stands on an earlier line, and none with a lower number on its own.
pub record IsFirstFault (text : List ℕ) (kind : ReadKind) (line : ℕ) : Type 0 where
  pub there : HasFault text kind line
  pub no_earlier : (k : ReadKind) (n : ℕ) → HasFault text k n → line ≤ n
  pub no_lower : (k : ReadKind) → HasFault text k line → number_of kind ≤ number_of k

-- memory ran out, or this is the first fault
abbrev pub IsReadFault : List ℕ → ReadKind → ℕ → Type 0
IsReadFault text kind line = ((kind ≡ OutOfMemory) × (line ≡ 0)) ⊎ IsFirstFault text kind line
