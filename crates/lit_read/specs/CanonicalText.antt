-- The canonical text of a test, as bytes, form by form (this project's own; decision 7).
use Rattle.std.specs.Prelude.{ℕ, Bool, true, false, List, [], ◌∷◌, ◌++◌, map, codes}
use Rattle.std.specs.Fmt.{decimal}
use Rattle.lit_syntax.specs.Syntax.{Window, DataView8, DataView16, DataView32, Statement, Load, Store}
use Rattle.lit_syntax.specs.Syntax.{Exchange, CompareExchange, If, Litmus}
use Rattle.lit_read.specs.Lines.{ended_lines}
use Rattle.lit_syntax.specs.Written.{Comparison, Operand, Compared, Negated, Grouped, Conjunction, Lone, Both, Written, Single, Either}
use Rattle.lit_syntax.specs.Forms.{Form, Blank, TestLine, BytesLine, AgentLine, StatementLine}
use Rattle.lit_syntax.specs.Forms.{IfLine, ElseLine, EndLine, CheckLine, window_word}
use Rattle.lit_read.specs.Canonical.{canonical_forms}

-- pieces of text, one after the other
abbrev pub joined : List (List ℕ) → List ℕ
joined [] = []
joined (a ∷ []) = a
joined (a ∷ b ∷ pieces) = a ++ joined (b ∷ pieces)

-- `r0` and so on
abbrev pub register_text : ℕ → List ℕ
register_text reg = codes "r" ++ decimal reg

abbrev pub relation_text : Bool → List ℕ
relation_text true = codes " == "
relation_text false = codes " != "

-- ---- conditions: one blank on each side of `==`, `!=`, `&&` and `||`, and no other blank

-- NAME.REG == NUM or NAME.REG != NUM
abbrev pub comparison_text : Comparison → List ℕ
comparison_text c = joined (c.agent ∷ codes "." ∷ register_text c.reg ∷ relation_text c.equal ∷ decimal c.value ∷ [])

abbrev mutual
  pub operand_text : Operand → List ℕ
  operand_text (Compared c) = comparison_text c
  operand_text (Negated o) = codes "!" ++ operand_text o
  operand_text (Grouped w) = joined (codes "(" ∷ written_text w ∷ codes ")" ∷ [])

  pub conjunction_text : Conjunction → List ℕ
  conjunction_text (Lone o) = operand_text o
  conjunction_text (Both o c) = joined (operand_text o ∷ codes " && " ∷ conjunction_text c ∷ [])

  pub written_text : Written → List ℕ
  written_text (Single c) = conjunction_text c
  written_text (Either c w) = joined (conjunction_text c ∷ codes " || " ∷ written_text w ∷ [])

-- ---- accesses

-- what is read without `Atomics`
abbrev pub read_text : Window → ℕ → List ℕ
read_text DataView8 index = joined (codes "DV.getUint8(" ∷ decimal index ∷ codes ")" ∷ [])
read_text DataView16 index = joined (codes "DV.getUint16(" ∷ decimal index ∷ codes ", true)" ∷ [])
read_text DataView32 index = joined (codes "DV.getUint32(" ∷ decimal index ∷ codes ", true)" ∷ [])
read_text window index = joined (window_word window ∷ codes "[" ∷ decimal index ∷ codes "]" ∷ [])

-- a store without `Atomics`
abbrev pub store_text : Window → ℕ → ℕ → List ℕ
store_text DataView8 index value = joined (codes "DV.setUint8(" ∷ decimal index ∷ codes ", " ∷ decimal value ∷ codes ")" ∷ [])
store_text DataView16 index value = joined (codes "DV.setUint16(" ∷ decimal index ∷ codes ", " ∷ decimal value ∷ codes ", true)" ∷ [])
store_text DataView32 index value = joined (codes "DV.setUint32(" ∷ decimal index ∷ codes ", " ∷ decimal value ∷ codes ", true)" ∷ [])
store_text window index value = joined (window_word window ∷ codes "[" ∷ decimal index ∷ codes "] = " ∷ decimal value ∷ [])

-- the line of an access
abbrev pub statement_text : Statement → List ℕ
statement_text (Load reg window index false) = joined (register_text reg ∷ codes " = " ∷ read_text window index ∷ [])
statement_text (Load reg window index true) =
    joined (register_text reg ∷ codes " = Atomics.load(" ∷ window_word window ∷ codes ", " ∷ decimal index ∷ codes ")" ∷ [])
statement_text (Store window index value false) = store_text window index value
statement_text (Store window index value true) =
    joined (codes "Atomics.store(" ∷ window_word window ∷ codes ", " ∷ decimal index ∷ codes ", " ∷ decimal value ∷ codes ")" ∷ [])
statement_text (Exchange reg window index value) =
    joined (register_text reg ∷ codes " = Atomics.exchange(" ∷ window_word window ∷ codes ", " ∷ decimal index ∷ codes ", " ∷ decimal value
    ∷ codes ")" ∷ [])
statement_text (CompareExchange reg window index expected value) =
    joined (register_text reg ∷ codes " = Atomics.compareExchange(" ∷ window_word window ∷ codes ", " ∷ decimal index ∷ codes ", "
    ∷ decimal expected ∷ codes ", " ∷ decimal value ∷ codes ")" ∷ [])
statement_text (If reg equal value body other) = []

-- ---- lines

-- a line of this form, without indentation
abbrev pub form_text : Form → List ℕ
form_text Blank = []
form_text (TestLine name) = codes "test " ++ name
form_text (BytesLine bytes) = codes "bytes " ++ decimal bytes
form_text (AgentLine name) = codes "agent " ++ name
form_text (StatementLine s) = statement_text s
form_text (IfLine reg equal value) = joined (codes "if " ∷ register_text reg ∷ relation_text equal ∷ decimal value ∷ codes " {" ∷ [])
form_text ElseLine = codes "} else {"
form_text EndLine = codes "}"
form_text (CheckLine w) = codes "check " ++ written_text w

-- the lines of these forms, each ended by a byte 10
abbrev pub forms_text : List Form → List ℕ
forms_text forms = ended_lines (map form_text forms)

-- the canonical text
unfoldable pub canonical : Litmus → List ℕ
canonical t = forms_text (canonical_forms t)
