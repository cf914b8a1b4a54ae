-- The tokens of a line (this project's own).
use Rattle.std.specs.Prelude.{◌≡◌, ℕ, ◌+◌, ◌-◌, ◌*◌, ◌≤◌, ◌==◌, ◌||◌, ◌⊎◌, Bool, false}
use Rattle.std.specs.Prelude.{IsTrue, List, [], ◌∷◌, ◌++◌, length, fold, codes, not}
use Rattle.std.specs.List.{list_all}
use Rattle.std.specs.Char.{is_ascii_alphabetic, is_ascii_alphanumeric, is_ascii_digit}
use Rattle.lit_syntax.specs.declared.symbol.Symbol.{Symbol}
use Rattle.lit_syntax.specs.declared.symbol.Symbol.TheVariants.{Same, Differs, And, Or, Gives, Not, OpenBracket, CloseBracket}
use Rattle.lit_syntax.specs.declared.symbol.Symbol.TheVariants.{OpenParen, CloseParen, OpenBrace, CloseBrace, Comma, Dot}
use Rattle.lit_syntax.specs.declared.limits.TheConstants.{WORD_LIMIT, DIGIT_LIMIT}

-- a word, a number or a symbol
pub data Token : Type 0 where
  Word : (text : List ℕ) → Token
  Number : (value : ℕ) → Token
  Sign : (symbol : Symbol) → Token

-- a tab, a carriage return or a space
abbrev pub is_blank : ℕ → Bool
is_blank b = b == 9 || b == 13 || b == 32

-- a letter or `_`
abbrev pub begins_word : ℕ → Bool
begins_word b = is_ascii_alphabetic b || b == 95

-- a letter, a digit or `_`
abbrev pub is_in_word : ℕ → Bool
is_in_word b = is_ascii_alphanumeric b || b == 95

-- whether a list begins with a member that satisfies the predicate
abbrev pub begins_with : {A : Type 0} → (A → Bool) → List A → Bool
begins_with p [] = false
begins_with p (x ∷ xs) = p x

-- a letter or `_`, and then letters, digits and `_`: at most as many as a word may have
pub record IsWord (text : List ℕ) : Type 0 where
  pub first : IsTrue (begins_with begins_word text)
  pub others : IsTrue (list_all is_in_word text)
  pub short : length text ≤ WORD_LIMIT

-- what decimal digits stand for
abbrev pub digits_value : List ℕ → ℕ
digits_value digits = fold (λ value digit. value * 10 + (digit - 48)) 0 digits

-- `0`, or digits that do not begin with 0, at most as many as a number may have
pub record IsNumber (digits : List ℕ) : Type 0 where
  pub lead : (digits ≡ codes "0") ⊎ IsTrue (begins_with (λ b. not (b == 48)) digits)
  pub each : IsTrue (list_all is_ascii_digit digits)
  pub short : length digits ≤ DIGIT_LIMIT

-- how a symbol is written
abbrev pub symbol_text : Symbol → List ℕ
symbol_text Same = codes "=="
symbol_text Differs = codes "!="
symbol_text And = codes "&&"
symbol_text Or = codes "||"
symbol_text Gives = codes "="
symbol_text Not = codes "!"
symbol_text OpenBracket = codes "["
symbol_text CloseBracket = codes "]"
symbol_text OpenParen = codes "("
symbol_text CloseParen = codes ")"
symbol_text OpenBrace = codes "{"
symbol_text CloseBrace = codes "}"
symbol_text Comma = codes ","
symbol_text Dot = codes "."

-- the bytes are those of the token
abbrev pub IsTokenText : Token → List ℕ → Type 0
IsTokenText (Word text) bytes = IsWord text × (bytes ≡ text)
IsTokenText (Number value) bytes = IsNumber bytes × (value ≡ digits_value bytes)
IsTokenText (Sign symbol) bytes = bytes ≡ symbol_text symbol

-- The token is the longest that fits: what follows it does not go on with it.
abbrev pub CanEndBefore : Token → List ℕ → Type 0
CanEndBefore (Word text) rest = begins_with is_in_word rest ≡ false
CanEndBefore (Number value) rest = begins_with is_ascii_digit rest ≡ false
CanEndBefore (Sign Gives) rest = begins_with (λ b. b == 61) rest ≡ false
CanEndBefore (Sign Not) rest = begins_with (λ b. b == 61) rest ≡ false
CanEndBefore (Sign _) rest = Unit {0}

-- The line is blanks, tokens and blanks in turn, and then nothing, or a comment: `//` and whatever follows it.
unfoldable pub CutsInto : List ℕ → List Token → Type 0
CutsInto line [] =
    (blanks comment : List ℕ) × (line ≡ blanks ++ comment) × IsTrue (list_all is_blank blanks)
    × ((comment ≡ []) ⊎ ((rest : List ℕ) × (comment ≡ codes "//" ++ rest)))
CutsInto line (t ∷ ts) =
    (blanks text rest : List ℕ) × (line ≡ blanks ++ (text ++ rest)) × IsTrue (list_all is_blank blanks) × IsTokenText t text
    × CanEndBefore t rest × CutsInto rest ts

-- it cannot be cut into tokens
abbrev pub CannotBeCut : List ℕ → Type 0
CannotBeCut line = (tokens : List Token) → ¬ CutsInto line tokens
