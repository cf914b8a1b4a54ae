-- Lines of printable bytes, and the tokens that they are cut into.
use Rattle.std.proofs.Common.{◌≡◌, ℕ, zero, suc, ◌+◌, ◌-◌, ◌*◌, ◌^◌, ◌<◌, Bool, true, false, not, eqb, leb, ◌&&◌, inl, inr, List, [], ◌∷◌, ◌++◌, length, get_or, refl, ap, sym, subst, ◌∙◌, append_assoc, arith, rules}
use Rattle.std.specs.Prelude.{fold}
use Rattle.std.specs.List.{list_all}
use Rattle.std.specs.Char.{is_ascii_digit}
use Rattle.std.specs.Fmt.{decimal}
use Rattle.std.proofs.lemmas.Bool.{leb-true}
use Rattle.std.proofs.lemmas.Bool.Decides.{nat_tests}
use Rattle.std.proofs.lemmas.Fmt.{decimal_digit, first_decimal, length-decimal-le, digits_decimal, digits_value-decimal}
use Rattle.std.proofs.lemmas.Str.Parse.{IsNumeralModel, numerals_by_fold}
use Rattle.std.proofs.lemmas.List.{append-nil}
use Rattle.lit_syntax.specs.declared.symbol.Symbol.{Symbol}
use Rattle.lit_syntax.specs.declared.symbol.Symbol.TheVariants.{Same, Differs, And, Or, Gives, Not, OpenBracket, CloseBracket, OpenParen, CloseParen, OpenBrace, CloseBrace, Comma, Dot}
use Rattle.lit_syntax.specs.declared.limits.TheConstants.{WORD_LIMIT, REGISTERS}
use Rattle.lit_syntax.specs.Tokens.{Token, Word, Number, Sign, begins_word, is_in_word, begins_with, IsWord, IsNumber, digits_value, symbol_text, IsTokenText, CanEndBefore, CutsInto}
use Rattle.lit_syntax.specs.Written.{register_word}
use Rattle.lit_read.specs.CanonicalText.{joined, register_text}
use Rattle.lit_read.proofs.SpellLemmas.{all_joined}

-- the bytes that stand in a canonical line
abbrev pub is_printable : ℕ → Bool
is_printable b = leb 32 b && leb b 126

-- the line has printable bytes alone, and is cut into these tokens
pub record IsClean (line : List ℕ) (tokens : List Token) : Type 0 where
  pub cut : CutsInto line tokens
  pub printable : list_all is_printable line ≡ true

pub clean_nil : IsClean [] []
unfolding CutsInto
clean_nil = record { cut = ([], [], refl, refl, inl refl); printable = refl }

blank_cut : (line : List ℕ) (ts : List Token) → CutsInto line ts → CutsInto (32 ∷ line) ts
unfolding CutsInto
blank_cut line [] h = (32 ∷ h.0, h.1, ap (λ (l : List ℕ). 32 ∷ l) h.2, h.3, h.4)
blank_cut line (t ∷ ts) h = (32 ∷ h.0, h.1, h.2, ap (λ (l : List ℕ). 32 ∷ l) h.3, h.4, h.5, h.6, h.7)

pub clean_blank : {line : List ℕ} {ts : List Token} → IsClean line ts → IsClean (32 ∷ line) ts
clean_blank {line} {ts} h = record { cut = blank_cut line ts h.cut; printable = h.printable }

token_cut : (t : Token) (text line : List ℕ) (ts : List Token) → IsTokenText t text → CanEndBefore t line → CutsInto line ts → CutsInto (text ++ line) (t ∷ ts)
unfolding CutsInto
token_cut t text line ts is ends h = ([], text, line, refl, refl, is, ends, h)

-- ---- printable texts

in_word_printable : (b : ℕ) → is_in_word b ≡ true → is_printable b ≡ true
in_word_printable b h = grind (arith, nat_tests)

digit_printable : (b : ℕ) → is_ascii_digit b ≡ true → is_printable b ≡ true
digit_printable b h = grind (arith, nat_tests)

pub all_weaker : (p q : ℕ → Bool) → ((b : ℕ) → p b ≡ true → q b ≡ true) → (l : List ℕ) → list_all p l ≡ true → list_all q l ≡ true
all_weaker p q f [] h = refl
all_weaker p q f (b ∷ bs) h = by (p b) refl h (all_weaker p q f bs)
  where
    by : (t : Bool) → p b ≡ t → (t && list_all p bs) ≡ true → (list_all p bs ≡ true → list_all q bs ≡ true) → (q b && list_all q bs) ≡ true
    by true e g more = rw (f b e) (more g)
    by false e g more = absurd cc

text_printable : (t : Token) (text : List ℕ) → IsTokenText t text → list_all is_printable text ≡ true
text_printable (Word word) text is = rw is.1 (all_weaker is_in_word is_printable in_word_printable word is.0.others)
text_printable (Number value) text is = all_weaker is_ascii_digit is_printable digit_printable text is.0.each
text_printable (Sign symbol) text is = ap (list_all is_printable) is ∙ by symbol
  where
    by : (s : Symbol) → list_all is_printable (symbol_text s) ≡ true
    by Same = refl
    by Differs = refl
    by And = refl
    by Or = refl
    by Gives = refl
    by Not = refl
    by OpenBracket = refl
    by CloseBracket = refl
    by OpenParen = refl
    by CloseParen = refl
    by OpenBrace = refl
    by CloseBrace = refl
    by Comma = refl
    by Dot = refl

token_clean : (t : Token) (text line : List ℕ) (ts : List Token) → IsTokenText t text → CanEndBefore t line → IsClean line ts → IsClean (text ++ line) (t ∷ ts)
token_clean t text line ts is ends h = record { cut = token_cut t text line ts is ends h.cut; printable = all_joined is_printable text line (text_printable t text is) h.printable }

-- ---- words, signs and numbers

pub word_is : (word : List ℕ) → (begins_with begins_word word && (list_all is_in_word word && leb (length word) WORD_LIMIT)) ≡ true → IsWord word
word_is word h = by (begins_with begins_word word) refl (list_all is_in_word word) refl h
  where
    by : (a : Bool) → begins_with begins_word word ≡ a → (b : Bool) → list_all is_in_word word ≡ b → (a && (b && leb (length word) WORD_LIMIT)) ≡ true → IsWord word
    by true e true f g = record { first = e; others = f; short = leb-true _ _ g }
    by true e false f g = absurd cc
    by false e b f g = absurd cc

pub clean_word : (word : List ℕ) {line : List ℕ} {ts : List Token} → IsWord word → begins_with is_in_word line ≡ false → IsClean line ts → IsClean (word ++ line) (Word word ∷ ts)
clean_word word {line} {ts} is ends h = token_clean (Word word) word line ts (is, refl) ends h

pub clean_sign : (symbol : Symbol) {line : List ℕ} {ts : List Token} → CanEndBefore (Sign symbol) line → IsClean line ts → IsClean (symbol_text symbol ++ line) (Sign symbol ∷ ts)
clean_sign symbol {line} {ts} ends h = token_clean (Sign symbol) (symbol_text symbol) line ts refl ends h

numeral_model : IsNumeralModel (λ ds. list_all is_ascii_digit ds ≡ true) digits_value
numeral_model = numerals_by_fold _ (search rules) (λ start ds. fold (λ value digit. value * 10 + (digit - 48)) start ds) (search rules)

plain_lead : (ds : List ℕ) → 48 < get_or ds 0 0 → begins_with (λ b. not (eqb b 48)) ds ≡ true
plain_lead [] h = absurd (omega arith)
plain_lead (b ∷ bs) h = grind (arith, nat_tests)

number_is : (n : ℕ) → n < 10 ^ 10 → IsNumber (decimal n)
number_is zero small = rw (decimal_digit 0 (omega arith)) (record { lead = inl refl; each = refl; short = omega arith })
number_is (suc n) small = record {
  lead = inr (plain_lead (decimal (suc n)) (first_decimal (suc n) (omega arith) (omega arith)));
  each = digits_decimal numeral_model (suc n) (omega arith);
  short = length-decimal-le 10 (suc n) (omega arith) small (omega arith);
}

pub clean_number : (n : ℕ) {line : List ℕ} {ts : List Token} → n < 10 ^ 10 → begins_with is_ascii_digit line ≡ false → IsClean line ts → IsClean (decimal n ++ line) (Number n ∷ ts)
clean_number n {line} {ts} small ends h = token_clean (Number n) (decimal n) line ts (number_is n small, sym (digits_value-decimal numeral_model n (omega arith))) ends h

register_is : (reg : ℕ) → reg < REGISTERS → register_text reg ≡ register_word reg
register_is reg lt = ap (λ (ds : List ℕ). 114 ∷ ds) (decimal_digit reg (omega arith))

register_word_is : (reg : ℕ) → reg < REGISTERS → IsWord (register_word reg)
register_word_is reg lt = record { first = refl; others = grind (arith, nat_tests); short = omega arith }

pub clean_register : (reg : ℕ) {line : List ℕ} {ts : List Token} → reg < REGISTERS → begins_with is_in_word line ≡ false → IsClean line ts → IsClean (register_text reg ++ line) (Word (register_word reg) ∷ ts)
clean_register reg {line} {ts} lt ends h = token_clean (Word (register_word reg)) (register_text reg) line ts (register_word_is reg lt, register_is reg lt) ends h

-- ---- pieces of a line, and what is behind them

abbrev pub onto : List (List ℕ) → List ℕ → List ℕ
onto [] line = line
onto (p ∷ ps) line = p ++ onto ps line

pub onto_is : (ps : List (List ℕ)) (line : List ℕ) → joined ps ++ line ≡ onto ps line
onto_is [] line = refl
onto_is (p ∷ []) line = refl
onto_is (p ∷ q ∷ ps) line = append_assoc p (joined (q ∷ ps)) line ∙ ap (λ (l : List ℕ). p ++ l) (onto_is (q ∷ ps) line)

-- a line that is these pieces
pub clean_pieces : (ps : List (List ℕ)) {ts : List Token} → IsClean (onto ps []) ts → IsClean (joined ps) ts
clean_pieces ps {ts} h = subst (λ (l : List ℕ). IsClean l ts) (sym (sym (append-nil (joined ps)) ∙ onto_is ps [])) h
