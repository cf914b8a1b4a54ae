-- The forms of a line (this project's own). A line's form is a function of that line alone.
use Rattle.std.specs.Prelude.{◌≡◌, ℕ, ◌<◌, Bool, true, false, IsTrue, if◌then◌else◌, List, [], ◌∷◌, ◌++◌, codes}
use Rattle.std.specs.List.{AllByRecursion, flat_map}
use Rattle.lit_syntax.specs.declared.symbol.Symbol.TheVariants.{Same, Differs, Gives, OpenBracket, CloseBracket, OpenParen}
use Rattle.lit_syntax.specs.declared.symbol.Symbol.TheVariants.{CloseParen, OpenBrace, CloseBrace, Comma, Dot}
use Rattle.lit_syntax.specs.declared.limits.TheConstants.{REGISTERS}
use Rattle.lit_syntax.specs.Syntax.{Window, Uint8, Uint16, Uint32, DataView8, DataView16, DataView32, is_data_view}
use Rattle.lit_syntax.specs.Syntax.{Statement, Load, Store, Exchange, CompareExchange, If}
use Rattle.lit_syntax.specs.Tokens.{Token, Word, Number, Sign, CutsInto}
use Rattle.lit_syntax.specs.Written.{Written, register_word, written_tokens, written_depths}

-- What a line says, with its numbers as they stand there. A statement line is an access; an `if` has lines of its own.
pub data Form : Type 0 where
  Blank : Form
  TestLine : (name : List ℕ) → Form
  BytesLine : (bytes : ℕ) → Form
  AgentLine : (name : List ℕ) → Form
  StatementLine : Statement → Form
  IfLine : (reg : ℕ) → (equal : Bool) → (value : ℕ) → Form
  ElseLine : Form
  EndLine : Form
  CheckLine : Written → Form

-- a typed array, by the name that the text has for it
abbrev pub window_word : Window → List ℕ
window_word Uint8 = codes "U8"
window_word Uint16 = codes "U16"
window_word Uint32 = codes "U32"
window_word _ = []

-- OBJECT.NAME(ARG, ARG, ..)
abbrev pub call_tokens : List ℕ → List ℕ → Token → List Token → List Token
call_tokens object name first others =
    Word object ∷ Sign Dot ∷ Word name ∷ Sign OpenParen ∷ first ∷ (flat_map (λ t. Sign Comma ∷ t ∷ []) others ++ Sign CloseParen ∷ [])

-- Atomics.NAME(VIEW, ARG, ..)
abbrev pub atomic_tokens : List ℕ → Window → List Token → List Token
atomic_tokens name window others = call_tokens (codes "Atomics") name (Word (window_word window)) others

-- what is read without `Atomics`
abbrev pub read_tokens : Window → ℕ → List Token
read_tokens DataView8 index = call_tokens (codes "DV") (codes "getUint8") (Number index) []
read_tokens DataView16 index = call_tokens (codes "DV") (codes "getUint16") (Number index) (Word (codes "true") ∷ [])
read_tokens DataView32 index = call_tokens (codes "DV") (codes "getUint32") (Number index) (Word (codes "true") ∷ [])
read_tokens window index = Word (window_word window) ∷ Sign OpenBracket ∷ Number index ∷ Sign CloseBracket ∷ []

-- a store without `Atomics`
abbrev pub store_tokens : Window → ℕ → ℕ → List Token
store_tokens DataView8 index value = call_tokens (codes "DV") (codes "setUint8") (Number index) (Number value ∷ [])
store_tokens DataView16 index value = call_tokens (codes "DV") (codes "setUint16") (Number index) (Number value ∷ Word (codes "true") ∷ [])
store_tokens DataView32 index value = call_tokens (codes "DV") (codes "setUint32") (Number index) (Number value ∷ Word (codes "true") ∷ [])
store_tokens window index value = read_tokens window index ++ Sign Gives ∷ Number value ∷ []

-- the line of an access
abbrev pub statement_tokens : Statement → List Token
statement_tokens (Load reg window index false) = Word (register_word reg) ∷ Sign Gives ∷ read_tokens window index
statement_tokens (Load reg window index true) =
    Word (register_word reg) ∷ Sign Gives ∷ atomic_tokens (codes "load") window (Number index ∷ [])
statement_tokens (Store window index value false) = store_tokens window index value
statement_tokens (Store window index value true) = atomic_tokens (codes "store") window (Number index ∷ Number value ∷ [])
statement_tokens (Exchange reg window index value) =
    Word (register_word reg) ∷ Sign Gives ∷ atomic_tokens (codes "exchange") window (Number index ∷ Number value ∷ [])
statement_tokens (CompareExchange reg window index expected value) =
    Word (register_word reg) ∷ Sign Gives
    ∷ atomic_tokens (codes "compareExchange") window (Number index ∷ Number expected ∷ Number value ∷ [])
statement_tokens (If reg equal value body other) = []

-- the tokens that spell a form
unfoldable pub spelled : Form → List Token
spelled Blank = []
spelled (TestLine name) = Word (codes "test") ∷ Word name ∷ []
spelled (BytesLine bytes) = Word (codes "bytes") ∷ Number bytes ∷ []
spelled (AgentLine name) = Word (codes "agent") ∷ Word name ∷ []
spelled (StatementLine s) = statement_tokens s
spelled (IfLine reg equal value) =
    Word (codes "if") ∷ Word (register_word reg) ∷ Sign (if equal then Same else Differs) ∷ Number value ∷ Sign OpenBrace ∷ []
spelled ElseLine = Sign CloseBrace ∷ Word (codes "else") ∷ Sign OpenBrace ∷ []
spelled EndLine = Sign CloseBrace ∷ []
spelled (CheckLine w) = Word (codes "check") ∷ written_tokens w

-- what can stand in a line; of statements, the accesses
unfoldable pub IsForm : Form → Type 0
IsForm (StatementLine (Load reg window index atomic)) = (reg < REGISTERS) × (IsTrue atomic → is_data_view window ≡ false)
IsForm (StatementLine (Store window index value atomic)) = IsTrue atomic → is_data_view window ≡ false
IsForm (StatementLine (Exchange reg window index value)) = (reg < REGISTERS) × (is_data_view window ≡ false)
IsForm (StatementLine (CompareExchange reg window index expected value)) = (reg < REGISTERS) × (is_data_view window ≡ false)
IsForm (StatementLine (If reg equal value body other)) = ⊥
IsForm (IfLine reg equal value) = reg < REGISTERS
IsForm (CheckLine w) = AllByRecursion (λ p. p.0.reg < REGISTERS) (written_depths 0 w)
IsForm _ = Unit {0}

-- some tokens that the line cuts into spell the form, and it can stand in a line
pub record HasForm (line : List ℕ) (form : Form) : Type 0 where
  pub tokens : List Token
  pub cut : CutsInto line tokens
  pub spelling : (tokens ≡ spelled form) × IsForm form

-- the forms that say something
abbrev pub without_blanks : List Form → List Form
without_blanks [] = []
without_blanks (Blank ∷ fs) = without_blanks fs
without_blanks (f ∷ fs) = f ∷ without_blanks fs
