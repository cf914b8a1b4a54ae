-- The token at the front of a line, as it is computed. Private contracts alone cite this: `Tokens` has the definition.
use Rattle.std.specs.Prelude.{ℕ, ◌==◌, ◌&&◌, ◌||◌, nat_lt, Bool, true, false, not, if◌then◌else◌}
use Rattle.std.specs.Prelude.{List, [], ◌∷◌, take, drop, Option, Some, None}
use Rattle.std.specs.Option.{option_map}
use Rattle.std.specs.List.{prefix_len}
use Rattle.std.specs.Char.{is_ascii_digit}
use Rattle.lit_syntax.specs.declared.symbol.Symbol.{Symbol}
use Rattle.lit_syntax.specs.declared.symbol.Symbol.TheVariants.{Same, Differs, And, Or, Gives, Not, OpenBracket, CloseBracket}
use Rattle.lit_syntax.specs.declared.symbol.Symbol.TheVariants.{OpenParen, CloseParen, OpenBrace, CloseBrace, Comma, Dot}
use Rattle.lit_syntax.specs.declared.limits.TheConstants.{WORD_LIMIT, DIGIT_LIMIT}
use Rattle.lit_syntax.specs.Tokens.{Token, Word, Number, Sign, is_blank, begins_word, is_in_word, digits_value}

-- a symbol of two bytes
unfoldable pub pair_of : ℕ → ℕ → Option Symbol
pair_of a b =
    if (a == 61) && (b == 61) then Some Same
    else (if (a == 33) && (b == 61) then Some Differs
    else (if (a == 38) && (b == 38) then Some And
    else (if (a == 124) && (b == 124) then Some Or
    else None)))

-- a symbol of one byte
unfoldable pub single_of : ℕ → Option Symbol
single_of b =
    if b == 61 then Some Gives
    else (if b == 33 then Some Not
    else (if b == 91 then Some OpenBracket
    else (if b == 93 then Some CloseBracket
    else (if b == 40 then Some OpenParen
    else (if b == 41 then Some CloseParen
    else (if b == 123 then Some OpenBrace
    else (if b == 125 then Some CloseBrace
    else (if b == 44 then Some Comma
    else (if b == 46 then Some Dot
    else None)))))))))

abbrev pub or_else : {A : Type 0} → Option A → Option A → Option A
or_else (Some x) o = Some x
or_else None o = o

-- a symbol of two bytes, or else of one, with the bytes after it
unfoldable pub symbol_front : List ℕ → Option (Symbol × List ℕ)
symbol_front [] = None
symbol_front (a ∷ []) = option_map (λ s. (s, [])) (single_of a)
symbol_front (a ∷ b ∷ bs) = or_else (option_map (λ s. (s, bs)) (pair_of a b)) (option_map (λ s. (s, b ∷ bs)) (single_of a))

unfoldable pub word_front : List ℕ → Option (Token × List ℕ)
word_front bytes =
    let n = prefix_len is_in_word bytes in
    if nat_lt WORD_LIMIT n then None else Some (Word (take n bytes), drop n bytes)

-- `0`, or digits that do not begin with 0
abbrev pub has_plain_lead : List ℕ → Bool
has_plain_lead [] = false
has_plain_lead (b ∷ []) = true
has_plain_lead (b ∷ c ∷ bs) = not (b == 48)

unfoldable pub number_front : List ℕ → Option (Token × List ℕ)
number_front bytes =
    let n = prefix_len is_ascii_digit bytes in
    if nat_lt DIGIT_LIMIT n || not (has_plain_lead (take n bytes)) then None else Some (Number (digits_value (take n bytes)), drop n bytes)

unfoldable pub token_front : List ℕ → Option (Token × List ℕ)
token_front [] = None
token_front (b ∷ bs) =
    if begins_word b then word_front (b ∷ bs)
    else (if is_ascii_digit b then number_front (b ∷ bs)
    else option_map (λ p. (Sign p.0, p.1)) (symbol_front (b ∷ bs)))

-- nothing, or `//` and whatever follows it
abbrev pub is_comment : List ℕ → Bool
is_comment [] = true
is_comment (a ∷ []) = false
is_comment (a ∷ b ∷ bs) = (a == 47) && (b == 47)

-- what stands behind the blanks at the front
abbrev pub after_blanks : List ℕ → List ℕ
after_blanks bytes = drop (prefix_len is_blank bytes) bytes
