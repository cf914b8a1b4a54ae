-- The line of each canonical form is clean, and its tokens spell the form.
use Rattle.std.proofs.Common.{◌≡◌, ℕ, ◌^◌, ◌<◌, ◌≤◌, Bool, true, false, IsTrue, List, [], ◌∷◌, ◌++◌, refl, arith}
use Rattle.std.specs.Prelude.{codes}
use Rattle.std.specs.Char.{is_ascii_digit}
use Rattle.std.specs.Fmt.{decimal}
use Rattle.lit_syntax.specs.declared.symbol.Symbol.TheVariants.{Same, Differs, Gives, OpenBracket, CloseBracket, OpenParen, CloseParen, OpenBrace, CloseBrace, Comma, Dot}
use Rattle.lit_syntax.specs.declared.limits.TheConstants.{BLOCK_LIMIT, REGISTERS}
use Rattle.lit_syntax.specs.Syntax.{Window, Uint8, Uint16, Uint32, DataView8, DataView16, DataView32, is_data_view, Statement, Load, Store, Exchange, CompareExchange, If, is_in_block, fits_window, IsStatementIn}
use Rattle.lit_syntax.specs.Tokens.{Token, Word, Number, Sign, begins_with, IsWord}
use Rattle.lit_syntax.specs.Written.{register_word}
use Rattle.lit_syntax.specs.Forms.{TestLine, BytesLine, AgentLine, StatementLine, IfLine, ElseLine, EndLine, window_word, read_tokens, store_tokens, statement_tokens, spelled, IsForm}
use Rattle.lit_read.specs.CanonicalText.{joined, register_text, read_text, store_text, statement_text, form_text}
use Rattle.lit_read.proofs.DraftLemmas.{in_block_small, fitting_small}
use Rattle.lit_read.proofs.CleanLines.{IsClean, clean_nil, clean_blank, word_is, clean_word, clean_sign, clean_number, clean_register, clean_pieces}

-- ---- lines of a word or a number

pub test_clean : (name : List ℕ) → IsWord name → IsClean (form_text (TestLine name)) (spelled (TestLine name))
unfolding spelled
test_clean name is = clean_pieces (codes "test " ∷ name ∷ []) (clean_word (codes "test") (word_is (codes "test") refl) refl (clean_blank (clean_word name is refl clean_nil)))

pub agent_clean : (name : List ℕ) → IsWord name → IsClean (form_text (AgentLine name)) (spelled (AgentLine name))
unfolding spelled
agent_clean name is = clean_pieces (codes "agent " ∷ name ∷ []) (clean_word (codes "agent") (word_is (codes "agent") refl) refl (clean_blank (clean_word name is refl clean_nil)))

pub bytes_clean : (bytes : ℕ) → bytes < 10 ^ 10 → IsClean (form_text (BytesLine bytes)) (spelled (BytesLine bytes))
unfolding spelled
bytes_clean bytes small = clean_pieces (codes "bytes " ∷ decimal bytes ∷ []) (clean_word (codes "bytes") (word_is (codes "bytes") refl) refl (clean_blank (clean_number bytes small refl clean_nil)))

-- ---- `if`, else and end lines

pub if_clean : (reg : ℕ) (equal : Bool) (value : ℕ) → reg < REGISTERS → value < 10 ^ 10 → IsClean (form_text (IfLine reg equal value)) (spelled (IfLine reg equal value))
unfolding spelled
if_clean reg true value lt small =
    clean_pieces (codes "if " ∷ register_text reg ∷ codes " == " ∷ decimal value ∷ codes " {" ∷ [])
    (clean_word (codes "if") (word_is (codes "if") refl) refl (clean_blank (clean_register reg lt refl (clean_blank (clean_sign Same tt (clean_blank (clean_number value small refl (clean_blank (clean_sign OpenBrace tt clean_nil)))))))))
if_clean reg false value lt small =
    clean_pieces (codes "if " ∷ register_text reg ∷ codes " != " ∷ decimal value ∷ codes " {" ∷ [])
    (clean_word (codes "if") (word_is (codes "if") refl) refl (clean_blank (clean_register reg lt refl (clean_blank (clean_sign Differs tt (clean_blank (clean_number value small refl (clean_blank (clean_sign OpenBrace tt clean_nil)))))))))

pub else_clean : IsClean (form_text ElseLine) (spelled ElseLine)
unfolding spelled
else_clean = clean_sign CloseBrace tt (clean_blank (clean_word (codes "else") (word_is (codes "else") refl) refl (clean_blank (clean_sign OpenBrace tt clean_nil))))

pub end_clean : IsClean (form_text EndLine) (spelled EndLine)
unfolding spelled
end_clean = clean_sign CloseBrace tt clean_nil

-- ---- accesses without `Atomics`

little_endian : IsClean (codes ", true)") (Sign Comma ∷ Word (codes "true") ∷ Sign CloseParen ∷ [])
little_endian = clean_sign Comma tt (clean_blank (clean_word (codes "true") (word_is (codes "true") refl) refl (clean_sign CloseParen tt clean_nil)))

-- VIEW[NUM]
element : (word : List ℕ) (index : ℕ) {line : List ℕ} {ts : List Token} → IsWord word → index < 10 ^ 10 → IsClean line ts
    → IsClean (word ++ (codes "[" ++ (decimal index ++ (codes "]" ++ line)))) (Word word ∷ Sign OpenBracket ∷ Number index ∷ Sign CloseBracket ∷ ts)
element word index is small h = clean_word word is refl (clean_sign OpenBracket tt (clean_number index small refl (clean_sign CloseBracket tt h)))

-- DV.NAME(NUM
data_view : (name : List ℕ) (index : ℕ) {line : List ℕ} {ts : List Token} → IsWord name → index < 10 ^ 10 → begins_with is_ascii_digit line ≡ false → IsClean line ts
    → IsClean (codes "DV." ++ (name ++ (codes "(" ++ (decimal index ++ line)))) (Word (codes "DV") ∷ Sign Dot ∷ Word name ∷ Sign OpenParen ∷ Number index ∷ ts)
data_view name index is small ends h = clean_word (codes "DV") (word_is (codes "DV") refl) refl (clean_sign Dot tt (clean_word name is refl (clean_sign OpenParen tt (clean_number index small ends h))))

read_clean : (window : Window) (index : ℕ) → index < 10 ^ 10 → IsClean (read_text window index) (read_tokens window index)
read_clean Uint8 index small = element (codes "U8") index (word_is (codes "U8") refl) small clean_nil
read_clean Uint16 index small = element (codes "U16") index (word_is (codes "U16") refl) small clean_nil
read_clean Uint32 index small = element (codes "U32") index (word_is (codes "U32") refl) small clean_nil
read_clean DataView8 index small = data_view (codes "getUint8") index (word_is (codes "getUint8") refl) small refl (clean_sign CloseParen tt clean_nil)
read_clean DataView16 index small = data_view (codes "getUint16") index (word_is (codes "getUint16") refl) small refl little_endian
read_clean DataView32 index small = data_view (codes "getUint32") index (word_is (codes "getUint32") refl) small refl little_endian

-- ` = NUM` at the end of a line
assigned : (value : ℕ) → value < 10 ^ 10 → IsClean (codes " = " ++ (decimal value ++ [])) (Sign Gives ∷ Number value ∷ [])
assigned value small = clean_blank (clean_sign Gives refl (clean_blank (clean_number value small refl clean_nil)))

stored : (word : List ℕ) (index value : ℕ) → IsWord word → index < 10 ^ 10 → value < 10 ^ 10
    → IsClean (joined (word ∷ codes "[" ∷ decimal index ∷ codes "] = " ∷ decimal value ∷ [])) (Word word ∷ Sign OpenBracket ∷ Number index ∷ Sign CloseBracket ∷ Sign Gives ∷ Number value ∷ [])
stored word index value is small fits = clean_pieces (word ∷ codes "[" ∷ decimal index ∷ codes "] = " ∷ decimal value ∷ []) (element word index is small (assigned value fits))

-- `, NUM` and what is behind it
argument : (value : ℕ) {line : List ℕ} {ts : List Token} → value < 10 ^ 10 → begins_with is_ascii_digit line ≡ false → IsClean line ts → IsClean (codes ", " ++ (decimal value ++ line)) (Sign Comma ∷ Number value ∷ ts)
argument value small ends h = clean_sign Comma tt (clean_blank (clean_number value small ends h))

store_clean : (window : Window) (index value : ℕ) → index < 10 ^ 10 → value < 10 ^ 10 → IsClean (store_text window index value) (store_tokens window index value)
store_clean Uint8 index value small fits = stored (codes "U8") index value (word_is (codes "U8") refl) small fits
store_clean Uint16 index value small fits = stored (codes "U16") index value (word_is (codes "U16") refl) small fits
store_clean Uint32 index value small fits = stored (codes "U32") index value (word_is (codes "U32") refl) small fits
store_clean DataView8 index value small fits = data_view (codes "setUint8") index (word_is (codes "setUint8") refl) small refl (argument value fits refl (clean_sign CloseParen tt clean_nil))
store_clean DataView16 index value small fits = data_view (codes "setUint16") index (word_is (codes "setUint16") refl) small refl (argument value fits refl little_endian)
store_clean DataView32 index value small fits = data_view (codes "setUint32") index (word_is (codes "setUint32") refl) small refl (argument value fits refl little_endian)

-- ---- accesses with `Atomics`

window_is : (window : Window) → is_data_view window ≡ false → IsWord (window_word window)
window_is Uint8 e = word_is (codes "U8") refl
window_is Uint16 e = word_is (codes "U16") refl
window_is Uint32 e = word_is (codes "U32") refl
window_is DataView8 e = absurd cc
window_is DataView16 e = absurd cc
window_is DataView32 e = absurd cc

-- Atomics.NAME(VIEW, NUM
atomic : (name : List ℕ) (window : Window) (index : ℕ) {line : List ℕ} {ts : List Token} → IsWord name → is_data_view window ≡ false → index < 10 ^ 10 → begins_with is_ascii_digit line ≡ false → IsClean line ts
    → IsClean (codes "Atomics." ++ (name ++ (codes "(" ++ (window_word window ++ (codes ", " ++ (decimal index ++ line))))))
    (Word (codes "Atomics") ∷ Sign Dot ∷ Word name ∷ Sign OpenParen ∷ Word (window_word window) ∷ Sign Comma ∷ Number index ∷ ts)
atomic name window index is array small ends h =
    clean_word (codes "Atomics") (word_is (codes "Atomics") refl) refl (clean_sign Dot tt (clean_word name is refl (clean_sign OpenParen tt (clean_word (window_word window) (window_is window array) refl (argument index small ends h)))))

-- `REG = ` and what is behind it
assigns : (reg : ℕ) {line : List ℕ} {ts : List Token} → reg < REGISTERS → IsClean line ts → IsClean (register_text reg ++ (codes " = " ++ line)) (Word (register_word reg) ∷ Sign Gives ∷ ts)
assigns reg lt h = clean_register reg lt refl (clean_blank (clean_sign Gives refl (clean_blank h)))

-- the numbers of an access are numbers
index_small : (bytes : ℕ) (window : Window) (index : ℕ) → bytes ≤ BLOCK_LIMIT → IsTrue (is_in_block bytes window index) → index < 10 ^ 10
index_small bytes window index few h = let le = in_block_small bytes window index h in omega arith

value_small : (window : Window) (value : ℕ) → IsTrue (fits_window window value) → value < 10 ^ 10
value_small window value h = let lt = fitting_small window value h in omega arith

closed : IsClean (codes ")") (Sign CloseParen ∷ [])
closed = clean_sign CloseParen tt clean_nil

pub statement_clean : (bytes : ℕ) (s : Statement) → bytes ≤ BLOCK_LIMIT → IsStatementIn bytes s → IsForm (StatementLine s) → IsClean (statement_text s) (statement_tokens s)
unfolding IsForm
statement_clean bytes (Load reg window index false) few is access = assigns reg is.0 (read_clean window index (index_small bytes window index few is.1))
statement_clean bytes (Load reg window index true) few is access = assigns reg is.0 (atomic (codes "load") window index (word_is (codes "load") refl) (access.1 refl) (index_small bytes window index few is.1) refl closed)
statement_clean bytes (Store window index value false) few is access = store_clean window index value (index_small bytes window index few is.0) (value_small window value is.1)
statement_clean bytes (Store window index value true) few is access =
    atomic (codes "store") window index (word_is (codes "store") refl) (access refl) (index_small bytes window index few is.0) refl (argument value (value_small window value is.1) refl closed)
statement_clean bytes (Exchange reg window index value) few is access =
    assigns reg is.0 (atomic (codes "exchange") window index (word_is (codes "exchange") refl) access.1 (index_small bytes window index few is.1) refl (argument value (value_small window value is.2) refl closed))
statement_clean bytes (CompareExchange reg window index expected value) few is access =
    assigns reg is.0
    (atomic (codes "compareExchange") window index (word_is (codes "compareExchange") refl) access.1 (index_small bytes window index few is.1) refl
    (argument expected (value_small window expected is.2) refl (argument value (value_small window value is.3) refl closed)))
statement_clean bytes (If reg equal value body other) few is access = absurd access
