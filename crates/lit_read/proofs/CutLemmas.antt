-- A line is cut into tokens in one way: the token at its front is the computed one.
use Rattle.std.proofs.Common.{◌≡◌, ℕ, suc, ◌+◌, ◌≤◌, Bool, true, false, cond, not, eqb, ltb, ◌||◌, ◌&&◌, List, [], ◌∷◌, ◌++◌, length, take, drop, Option, Some, None, refl, ap, sym, subst, ◌∙◌, arith, true≢false, ◌⊎◌, inl, inr}
use Rattle.std.specs.Option.{option_map}
use Rattle.std.specs.List.{list_all, prefix_len}
use Rattle.std.specs.Char.{is_ascii_digit}
use Rattle.std.proofs.lemmas.Bool.{eqb-true, ltb-false, le-ltb, or_parts, and_parts}
use Rattle.std.proofs.lemmas.Bool.Decides.{nat_tests}
use Rattle.std.proofs.lemmas.List.{take_at, drop_at, take-append-drop}
use Rattle.std.proofs.lemmas.List.Folds.{length-prefix_len}
use Rattle.lit_syntax.specs.declared.symbol.Symbol.{Symbol}
use Rattle.lit_syntax.specs.declared.symbol.Symbol.TheVariants.{Same, Differs, And, Or, Gives, Not, OpenBracket, CloseBracket, OpenParen, CloseParen, OpenBrace, CloseBrace, Comma, Dot}
use Rattle.lit_syntax.specs.declared.limits.TheConstants.{WORD_LIMIT, DIGIT_LIMIT}
use Rattle.lit_syntax.specs.Tokens.{Token, Word, Number, Sign, is_blank, begins_word, is_in_word, begins_with, IsWord, IsNumber, digits_value, symbol_text, IsTokenText, CanEndBefore, CutsInto}
use Rattle.lit_read.specs.Internal.FirstToken.{pair_of, single_of, or_else, symbol_front, word_front, has_plain_lead, number_front, token_front, is_comment, after_blanks}
use Rattle.lit_read.proofs.TokenLemmas.{run_passes}

-- ---- one token of a line, and its end

-- the line is blanks, the token, and the rest
pub record CutsOff (line : List ℕ) (token : Token) (rest : List ℕ) : Type 0 where
  pub blanks : List ℕ
  pub text : List ℕ
  pub parts : line ≡ blanks ++ (text ++ rest)
  pub all_blank : list_all is_blank blanks ≡ true
  pub spelled : IsTokenText token text
  pub longest : CanEndBefore token rest

-- blanks, and then perhaps a comment
pub record IsTail (line : List ℕ) : Type 0 where
  pub blanks : List ℕ
  pub comment : List ℕ
  pub parts : line ≡ blanks ++ comment
  pub all_blank : list_all is_blank blanks ≡ true
  pub ended : is_comment comment ≡ true

pub cut_parts : (line : List ℕ) (t : Token) (ts : List Token) → CutsInto line (t ∷ ts) → (rest : List ℕ) × CutsOff line t rest × CutsInto rest ts
unfolding CutsInto
cut_parts line t ts h = (h.2, record { blanks = h.0; text = h.1; parts = h.3; all_blank = h.4; spelled = h.5; longest = h.6 }, h.7)

pub cut_of : (line : List ℕ) (t : Token) (ts : List Token) (rest : List ℕ) → CutsOff line t rest → CutsInto rest ts → CutsInto line (t ∷ ts)
unfolding CutsInto
cut_of line t ts rest c more = (c.blanks, c.text, rest, c.parts, c.all_blank, c.spelled, c.longest, more)

-- nothing, or a comment
abbrev IsEnd : List ℕ → Type 0
IsEnd comment = (comment ≡ []) ⊎ ((rest : List ℕ) × (comment ≡ 47 ∷ 47 ∷ rest))

end_comment : (comment : List ℕ) → IsEnd comment → is_comment comment ≡ true
end_comment comment (inl e) = rw e refl
end_comment comment (inr h) = rw h.1 refl

comment_end : (comment : List ℕ) → is_comment comment ≡ true → IsEnd comment
comment_end [] h = inl refl
comment_end (a ∷ []) h = absurd cc
comment_end (a ∷ b ∷ bs) h =
    let tests = and_parts (eqb a 47) (eqb b 47) h in
    inr (bs, rw (eqb-true a 47 tests.0, eqb-true b 47 tests.1) refl)

pub tail_parts : (line : List ℕ) → CutsInto line [] → IsTail line
unfolding CutsInto
tail_parts line h = record { blanks = h.0; comment = h.1; parts = h.2; all_blank = h.3; ended = end_comment h.1 h.4 }

pub tail_of : (line : List ℕ) → IsTail line → CutsInto line []
unfolding CutsInto
tail_of line tail = (tail.blanks, tail.comment, tail.parts, tail.all_blank, comment_end tail.comment tail.ended)

-- ---- the first digit

pub lead_plain : (digits : List ℕ) → IsNumber digits → has_plain_lead digits ≡ true
lead_plain digits is = by digits is.lead
  where
    by : (ds : List ℕ) → (ds ≡ 48 ∷ []) ⊎ (begins_with (λ b. not (eqb b 48)) ds ≡ true) → has_plain_lead ds ≡ true
    by [] (inl e) = absurd cc
    by [] (inr e) = absurd cc
    by (b ∷ []) lead = refl
    by (b ∷ c ∷ bs) (inl e) = absurd cc
    by (b ∷ c ∷ bs) (inr e) = e

pub plain_lead_is : (digits : List ℕ) → has_plain_lead digits ≡ true → (digits ≡ 48 ∷ []) ⊎ (begins_with (λ b. not (eqb b 48)) digits ≡ true)
plain_lead_is [] h = absurd cc
plain_lead_is (b ∷ c ∷ bs) h = inr h
plain_lead_is (b ∷ []) h = by (eqb b 48) refl
  where
    by : (x : Bool) → eqb b 48 ≡ x → (b ∷ [] ≡ 48 ∷ []) ⊎ (not (eqb b 48) ≡ true)
    by true e = inl (ap (λ (n : ℕ). n ∷ []) (eqb-true b 48 e))
    by false e = inr (ap not e)

-- ---- runs of bytes

pub run_len : (p : ℕ → Bool) (front rest : List ℕ) → list_all p front ≡ true → begins_with p rest ≡ false → prefix_len p (front ++ rest) ≡ length front
run_len p [] [] all stop = refl
run_len p [] (r ∷ rs) all stop = rw stop refl
run_len p (b ∷ bs) rest all stop = by (p b) all (run_len p bs rest)
  where
    by : (t : Bool) → (t && list_all p bs) ≡ true → (list_all p bs ≡ true → begins_with p rest ≡ false → prefix_len p (bs ++ rest) ≡ length bs)
        → cond t (1 + prefix_len p (bs ++ rest)) 0 ≡ suc (length bs)
    by true h more = omega (arith, more h stop)
    by false h more = absurd cc

run_stops : (p : ℕ → Bool) (bytes : List ℕ) → begins_with p (drop (prefix_len p bytes) bytes) ≡ false
run_stops p [] = refl
run_stops p (b ∷ bs) = by (p b) refl (run_stops p bs)
  where
    by : (t : Bool) → p b ≡ t → begins_with p (drop (prefix_len p bs) bs) ≡ false → begins_with p (drop (cond t (1 + prefix_len p bs) 0) (b ∷ bs)) ≡ false
    by true e h = let one : 1 + prefix_len p bs ≡ suc (prefix_len p bs) = omega arith in rw one h
    by false e h = e

blanks_skipped : (blanks rest : List ℕ) → list_all is_blank blanks ≡ true → begins_with is_blank rest ≡ false → after_blanks (blanks ++ rest) ≡ rest
blanks_skipped blanks rest all stop = rw (run_len is_blank blanks rest all stop) (drop_at blanks rest (length blanks) refl)

-- ---- bytes of one kind

word_is_no_blank : (b : ℕ) → begins_word b ≡ true → is_blank b ≡ false
word_is_no_blank b h = grind (arith, nat_tests)

digit_is_no_blank : (b : ℕ) → is_ascii_digit b ≡ true → is_blank b ≡ false
digit_is_no_blank b h = grind (arith, nat_tests)

digit_is_no_word : (b : ℕ) → is_ascii_digit b ≡ true → begins_word b ≡ false
digit_is_no_word b h = grind (arith, nat_tests)

word_goes_on : (b : ℕ) → begins_word b ≡ true → is_in_word b ≡ true
word_goes_on b h = grind (arith, nat_tests)

-- ---- what is spelled is computed

word_again : (word rest : List ℕ) → IsWord word → begins_with is_in_word rest ≡ false → word_front (word ++ rest) ≡ Some (Word word, rest)
unfolding word_front
word_again word rest is stop =
    let short : ltb WORD_LIMIT (length word) ≡ false = le-ltb _ _ is.short in
    rw (run_len is_in_word word rest is.others stop, short, take_at word rest (length word) refl, drop_at word rest (length word) refl) refl

number_again : (digits rest : List ℕ) → IsNumber digits → begins_with is_ascii_digit rest ≡ false → number_front (digits ++ rest) ≡ Some (Number (digits_value digits), rest)
unfolding number_front
number_again digits rest is stop =
    let short : ltb DIGIT_LIMIT (length digits) ≡ false = le-ltb _ _ is.short in
    rw (run_len is_ascii_digit digits rest is.each stop, short, take_at digits rest (length digits) refl, drop_at digits rest (length digits) refl, lead_plain digits is) refl

-- what a token begins with is no blank, and the token is computed from it
abbrev Begins : List ℕ → Token → List ℕ → Type 0
Begins bytes token rest = (begins_with is_blank bytes ≡ false) × (token_front bytes ≡ Some (token, rest))

word_begins : (word rest : List ℕ) → IsWord word → begins_with is_in_word rest ≡ false → Begins (word ++ rest) (Word word) rest
unfolding token_front
word_begins [] rest is stop = absurd (true≢false (sym is.first))
word_begins (b ∷ bs) rest is stop = (word_is_no_blank b is.first, rw is.first (word_again (b ∷ bs) rest is stop))

number_begins : (digits rest : List ℕ) → IsNumber digits → begins_with is_ascii_digit rest ≡ false → Begins (digits ++ rest) (Number (digits_value digits)) rest
unfolding token_front
number_begins [] rest is stop = absurd (true≢false (sym (lead_plain [] is)))
number_begins (b ∷ bs) rest is stop = by (is_ascii_digit b) refl is.each
  where
    by : (t : Bool) → is_ascii_digit b ≡ t → (t && list_all is_ascii_digit bs) ≡ true → Begins ((b ∷ bs) ++ rest) (Number (digits_value (b ∷ bs))) rest
    by true e h = (digit_is_no_blank b e, rw (digit_is_no_word b e, e) (number_again (b ∷ bs) rest is stop))
    by false e h = absurd cc

-- a symbol of one byte, behind which no longer one begins
single_begins : (a : ℕ) (s : Symbol) (rest : List ℕ) → begins_with is_blank (a ∷ rest) ≡ false → begins_word a ≡ false → is_ascii_digit a ≡ false → single_of a ≡ Some s
    → ((b : ℕ) (bs : List ℕ) → rest ≡ b ∷ bs → pair_of a b ≡ None) → Begins (a ∷ rest) (Sign s) rest
unfolding token_front symbol_front
single_begins a s [] blank word digit one two = (blank, rw (word, digit, one) refl)
single_begins a s (b ∷ bs) blank word digit one two = (blank, rw (word, digit, two b bs refl, one) refl)

equals_breaks : (a : ℕ) (rest : List ℕ) → begins_with (λ b. eqb b 61) rest ≡ false → ((b : ℕ) → eqb b 61 ≡ false → pair_of a b ≡ None) → (b : ℕ) (bs : List ℕ) → rest ≡ b ∷ bs → pair_of a b ≡ None
equals_breaks a [] stop none b bs e = absurd cc
equals_breaks a (r ∷ rs) stop none b bs e = let same : r ≡ b = cc in none b (rw (← same) stop)

sign_begins : (s : Symbol) (rest : List ℕ) → CanEndBefore (Sign s) rest → Begins (symbol_text s ++ rest) (Sign s) rest
unfolding token_front symbol_front pair_of single_of
sign_begins Same rest stop = (refl, refl)
sign_begins Differs rest stop = (refl, refl)
sign_begins And rest stop = (refl, refl)
sign_begins Or rest stop = (refl, refl)
sign_begins Gives rest stop = single_begins 61 Gives rest refl refl refl refl (equals_breaks 61 rest stop (λ b e. rw e refl))
sign_begins Not rest stop = single_begins 33 Not rest refl refl refl refl (equals_breaks 33 rest stop (λ b e. rw e refl))
sign_begins OpenBracket rest stop = single_begins 91 OpenBracket rest refl refl refl refl (λ b bs e. refl)
sign_begins CloseBracket rest stop = single_begins 93 CloseBracket rest refl refl refl refl (λ b bs e. refl)
sign_begins OpenParen rest stop = single_begins 40 OpenParen rest refl refl refl refl (λ b bs e. refl)
sign_begins CloseParen rest stop = single_begins 41 CloseParen rest refl refl refl refl (λ b bs e. refl)
sign_begins OpenBrace rest stop = single_begins 123 OpenBrace rest refl refl refl refl (λ b bs e. refl)
sign_begins CloseBrace rest stop = single_begins 125 CloseBrace rest refl refl refl refl (λ b bs e. refl)
sign_begins Comma rest stop = single_begins 44 Comma rest refl refl refl refl (λ b bs e. refl)
sign_begins Dot rest stop = single_begins 46 Dot rest refl refl refl refl (λ b bs e. refl)

token_begins : (t : Token) (text rest : List ℕ) → IsTokenText t text → CanEndBefore t rest → Begins (text ++ rest) t rest
token_begins (Word word) text rest is stop = rw is.1 (word_begins word rest is.0 stop)
token_begins (Number value) text rest is stop = rw is.1 (number_begins text rest is.0 stop)
token_begins (Sign symbol) text rest is stop = rw is (sign_begins symbol rest stop)

pub cut_token : (line : List ℕ) (t : Token) (rest : List ℕ) → CutsOff line t rest → token_front (after_blanks line) ≡ Some (t, rest)
cut_token line t rest cut =
    let begins = token_begins t cut.text rest cut.spelled cut.longest in
    rw cut.parts (rw (blanks_skipped cut.blanks (cut.text ++ rest) cut.all_blank begins.0) begins.1)

comment_begins : (bytes : List ℕ) → is_comment bytes ≡ true → begins_with is_blank bytes ≡ false
comment_begins [] h = refl
comment_begins (a ∷ []) h = absurd cc
comment_begins (a ∷ b ∷ bs) h = grind (arith, nat_tests)

pub cut_end : (line : List ℕ) → IsTail line → is_comment (after_blanks line) ≡ true
cut_end line tail = rw tail.parts (rw (blanks_skipped tail.blanks tail.comment tail.all_blank (comment_begins tail.comment tail.ended)) tail.ended)

-- ---- what is computed is spelled so

chosen : {A : Type 0} (t : Bool) (x y : Option A) (z : A) → cond t (Some z) y ≡ x → ((t ≡ true) × (Some z ≡ x)) ⊎ ((t ≡ false) × (y ≡ x))
chosen true x y z e = inl (refl, e)
chosen false x y z e = inr (refl, e)

-- a symbol of two bytes, which nothing goes on with
abbrev IsPair : ℕ → ℕ → Symbol → Type 0
IsPair a b s = (symbol_text s ≡ a ∷ b ∷ []) × ((rest : List ℕ) → CanEndBefore (Sign s) rest)

pair_case : (a b x y : ℕ) (z s : Symbol) → (eqb a x && eqb b y) ≡ true → Some z ≡ Some s → symbol_text z ≡ x ∷ y ∷ [] → ((rest : List ℕ) → CanEndBefore (Sign z) rest) → IsPair a b s
pair_case a b x y z s test e text ends =
    let tests = and_parts (eqb a x) (eqb b y) test in
    let a_is : a ≡ x = eqb-true a x tests.0 in
    let b_is : b ≡ y = eqb-true b y tests.1 in
    let s_is : z ≡ s = cc in
    subst (IsPair a b) s_is (rw (a_is, b_is) text, ends)

pair_is : (a b : ℕ) (s : Symbol) → pair_of a b ≡ Some s → IsPair a b s
unfolding pair_of
pair_is a b s e =
    elim (chosen (eqb a 61 && eqb b 61) (Some s) _ Same e) [
      | inl p ↦ pair_case a b 61 61 Same s p.0 p.1 refl (λ _. tt)
      | inr p ↦ elim (chosen (eqb a 33 && eqb b 61) (Some s) _ Differs p.1) [
        | inl q ↦ pair_case a b 33 61 Differs s q.0 q.1 refl (λ _. tt)
        | inr q ↦ elim (chosen (eqb a 38 && eqb b 38) (Some s) _ And q.1) [
          | inl r ↦ pair_case a b 38 38 And s r.0 r.1 refl (λ _. tt)
          | inr r ↦ elim (chosen (eqb a 124 && eqb b 124) (Some s) _ Or r.1) [
            | inl o ↦ pair_case a b 124 124 Or s o.0 o.1 refl (λ _. tt)
            | inr o ↦ absurd cc
          ]
        ]
      ]
    ]

-- a symbol of one byte, and whether it can be the first of two
abbrev IsSingle : ℕ → Symbol → Type 0
IsSingle a s = (symbol_text s ≡ a ∷ []) × ((rest : List ℕ) → ((b : ℕ) (bs : List ℕ) → rest ≡ b ∷ bs → pair_of a b ≡ None) → CanEndBefore (Sign s) rest)

single_case : (a x : ℕ) (z s : Symbol) → eqb a x ≡ true → Some z ≡ Some s → IsSingle x z → IsSingle a s
single_case a x z s test e is =
    let a_is : a ≡ x = eqb-true a x test in
    let s_is : z ≡ s = cc in
    subst (λ (n : ℕ). IsSingle n s) (sym a_is) (subst (IsSingle x) s_is is)

no_equals : (a : ℕ) (s : Symbol) → pair_of a 61 ≡ Some s → (rest : List ℕ) → ((b : ℕ) (bs : List ℕ) → rest ≡ b ∷ bs → pair_of a b ≡ None) → begins_with (λ b. eqb b 61) rest ≡ false
no_equals a s pair [] none = refl
no_equals a s pair (b ∷ bs) none = by (eqb b 61) refl
  where
    by : (t : Bool) → eqb b 61 ≡ t → t ≡ false
    by true e = let here : pair_of a 61 ≡ None = rw (← eqb-true b 61 e) (none b bs refl) in absurd cc
    by false e = refl

pair_same : pair_of 61 61 ≡ Some Same
unfolding pair_of
pair_same = refl

pair_differs : pair_of 33 61 ≡ Some Differs
unfolding pair_of
pair_differs = refl

single_is : (a : ℕ) (s : Symbol) → single_of a ≡ Some s → IsSingle a s
unfolding single_of
single_is a s e =
    elim (chosen (eqb a 61) (Some s) _ Gives e) [
      | inl p ↦ single_case a 61 Gives s p.0 p.1 (refl, no_equals 61 Same pair_same)
      | inr p ↦ elim (chosen (eqb a 33) (Some s) _ Not p.1) [
        | inl p ↦ single_case a 33 Not s p.0 p.1 (refl, no_equals 33 Differs pair_differs)
        | inr p ↦ elim (chosen (eqb a 91) (Some s) _ OpenBracket p.1) [
          | inl p ↦ single_case a 91 OpenBracket s p.0 p.1 (refl, λ _ _. tt)
          | inr p ↦ elim (chosen (eqb a 93) (Some s) _ CloseBracket p.1) [
            | inl p ↦ single_case a 93 CloseBracket s p.0 p.1 (refl, λ _ _. tt)
            | inr p ↦ elim (chosen (eqb a 40) (Some s) _ OpenParen p.1) [
              | inl p ↦ single_case a 40 OpenParen s p.0 p.1 (refl, λ _ _. tt)
              | inr p ↦ elim (chosen (eqb a 41) (Some s) _ CloseParen p.1) [
                | inl p ↦ single_case a 41 CloseParen s p.0 p.1 (refl, λ _ _. tt)
                | inr p ↦ elim (chosen (eqb a 123) (Some s) _ OpenBrace p.1) [
                  | inl p ↦ single_case a 123 OpenBrace s p.0 p.1 (refl, λ _ _. tt)
                  | inr p ↦ elim (chosen (eqb a 125) (Some s) _ CloseBrace p.1) [
                    | inl p ↦ single_case a 125 CloseBrace s p.0 p.1 (refl, λ _ _. tt)
                    | inr p ↦ elim (chosen (eqb a 44) (Some s) _ Comma p.1) [
                      | inl p ↦ single_case a 44 Comma s p.0 p.1 (refl, λ _ _. tt)
                      | inr p ↦ elim (chosen (eqb a 46) (Some s) _ Dot p.1) [
                        | inl p ↦ single_case a 46 Dot s p.0 p.1 (refl, λ _ _. tt)
                        | inr p ↦ absurd cc
                      ]
                    ]
                  ]
                ]
              ]
            ]
          ]
        ]
      ]
    ]

abbrev pub here : {A : Type 0} → A → Option A
here x = Some x

pub some_is : {A : Type 0} (x y : A) → here x ≡ here y → x ≡ y
some_is x y e = cc

pub pair_parts : {A B : Type 0} (a c : A) (b d : B) → here {A = A × B} (a, b) ≡ here {A = A × B} (c, d) → (a ≡ c) × (b ≡ d)
pair_parts {A} {B} a c b d e = let same = some_is {A = A × B} (a, b) (c, d) e in (ap (λ (p : A × B). p.0) same, ap (λ (p : A × B). p.1) same)

abbrev with_rest : List ℕ → Option Symbol → Option (Symbol × List ℕ)
with_rest rest o = option_map (λ s. (s, rest)) o

-- the token is at the front, and the rest behind it
record Stands (bytes : List ℕ) (t : Token) (rest : List ℕ) : Type 0 where
  text : List ℕ
  parts : bytes ≡ text ++ rest
  spelled : IsTokenText t text
  longest : CanEndBefore t rest

symbol_stands : (bytes : List ℕ) (s : Symbol) (rest : List ℕ) → symbol_front bytes ≡ Some (s, rest) → Stands bytes (Sign s) rest
unfolding symbol_front
symbol_stands [] s rest e = absurd cc
symbol_stands (a ∷ []) s rest e = by (single_of a) refl e
  where
    by : (o : Option Symbol) → single_of a ≡ o → with_rest [] o ≡ Some (s, rest) → Stands (a ∷ []) (Sign s) rest
    by None is h = absurd cc
    by (Some z) is h =
        let parts = pair_parts z s [] rest h in
        let s_is = parts.0 in
        let rest_is = parts.1 in
        let single = single_is a s (rw (← s_is) is) in
        rw (← rest_is) (record { text = a ∷ []; parts = refl; spelled = sym single.0; longest = single.1 [] (λ b bs h. absurd cc) })
symbol_stands (a ∷ b ∷ bs) s rest e = by (pair_of a b) refl (single_of a) refl e
  where
    by : (o : Option Symbol) → pair_of a b ≡ o → (q : Option Symbol) → single_of a ≡ q
        → or_else (with_rest bs o) (with_rest (b ∷ bs) q) ≡ Some (s, rest) → Stands (a ∷ b ∷ bs) (Sign s) rest
    by (Some z) is q one h =
        let parts = pair_parts z s bs rest h in
        let s_is = parts.0 in
        let rest_is = parts.1 in
        let pair = pair_is a b s (rw (← s_is) is) in
        rw (← rest_is) (record { text = a ∷ b ∷ []; parts = refl; spelled = sym pair.0; longest = pair.1 bs })
    by None is None one h = absurd cc
    by None is (Some z) one h =
        let parts = pair_parts z s (b ∷ bs) rest h in
        let s_is = parts.0 in
        let rest_is = parts.1 in
        let single = single_is a s (rw (← s_is) one) in
        rw (← rest_is) (record { text = a ∷ []; parts = refl; spelled = sym single.0; longest = single.1 (b ∷ bs) (λ c cs h. let same : b ≡ c = cc in rw (← same) is) })

guarded : {A : Type 0} (t : Bool) (x y : A) → cond t None (Some x) ≡ Some y → (t ≡ false) × (x ≡ y)
guarded true x y e = absurd cc
guarded false x y e = (refl, cc)

word_stands : (b : ℕ) (bs : List ℕ) (t : Token) (rest : List ℕ) → begins_word b ≡ true → word_front (b ∷ bs) ≡ Some (t, rest) → Stands (b ∷ bs) t rest
unfolding word_front
word_stands b bs t rest first e =
    let n = prefix_len is_in_word (b ∷ bs) in
    let g = guarded (ltb WORD_LIMIT n) (Word (take n (b ∷ bs)), drop n (b ∷ bs)) (t, rest) e in
    let t_is : Word (take n (b ∷ bs)) ≡ t = ap (λ (p : Token × List ℕ). p.0) g.1 in
    let rest_is : drop n (b ∷ bs) ≡ rest = ap (λ (p : Token × List ℕ). p.1) g.1 in
    let one : prefix_len is_in_word (b ∷ bs) ≡ suc (prefix_len is_in_word bs) = rw (word_goes_on b first) (omega arith) in
    let begins : begins_with begins_word (take n (b ∷ bs)) ≡ true = rw one first in
    let short : length (take n (b ∷ bs)) ≤ WORD_LIMIT = rw (length-prefix_len is_in_word (b ∷ bs)) (ltb-false _ _ g.0) in
    let is : IsWord (take n (b ∷ bs)) = record { first = begins; others = run_passes is_in_word (b ∷ bs); short = short } in
    rw (← t_is, ← rest_is) (record { text = take n (b ∷ bs); parts = sym (take-append-drop n (b ∷ bs)); spelled = (is, refl); longest = run_stops is_in_word (b ∷ bs) })

not_not : (x : Bool) → not x ≡ false → x ≡ true
not_not true e = refl
not_not false e = absurd cc

number_stands : (bytes : List ℕ) (t : Token) (rest : List ℕ) → number_front bytes ≡ Some (t, rest) → Stands bytes t rest
unfolding number_front
number_stands bytes t rest e =
    let n = prefix_len is_ascii_digit bytes in
    let g = guarded (ltb DIGIT_LIMIT n || not (has_plain_lead (take n bytes))) (Number (digits_value (take n bytes)), drop n bytes) (t, rest) e in
    let tests = or_parts (ltb DIGIT_LIMIT n) (not (has_plain_lead (take n bytes))) g.0 in
    let t_is : Number (digits_value (take n bytes)) ≡ t = ap (λ (p : Token × List ℕ). p.0) g.1 in
    let rest_is : drop n bytes ≡ rest = ap (λ (p : Token × List ℕ). p.1) g.1 in
    let short : length (take n bytes) ≤ DIGIT_LIMIT = rw (length-prefix_len is_ascii_digit bytes) (ltb-false _ _ tests.0) in
    let is : IsNumber (take n bytes) = record { lead = plain_lead_is _ (not_not _ tests.1); each = run_passes is_ascii_digit bytes; short = short } in
    rw (← t_is, ← rest_is) (record { text = take n bytes; parts = sym (take-append-drop n bytes); spelled = (is, refl); longest = run_stops is_ascii_digit bytes })

token_stands : (bytes : List ℕ) (t : Token) (rest : List ℕ) → token_front bytes ≡ Some (t, rest) → Stands bytes t rest
unfolding token_front
token_stands [] t rest e = absurd cc
token_stands (b ∷ bs) t rest e = by (begins_word b) refl (is_ascii_digit b) refl (symbol_front (b ∷ bs)) refl e
  where
    by : (w : Bool) → begins_word b ≡ w → (d : Bool) → is_ascii_digit b ≡ d → (o : Option (Symbol × List ℕ)) → symbol_front (b ∷ bs) ≡ o
        → cond w (word_front (b ∷ bs)) (cond d (number_front (b ∷ bs)) (option_map (λ p. (Sign p.0, p.1)) o)) ≡ Some (t, rest) → Stands (b ∷ bs) t rest
    by true word d digit o symbol h = word_stands b bs t rest word h
    by false word true digit o symbol h = number_stands (b ∷ bs) t rest h
    by false word false digit None symbol h = absurd cc
    by false word false digit (Some p) symbol h =
        let parts = pair_parts (Sign p.0) t p.1 rest h in
        rw (← parts.0, ← parts.1) (symbol_stands (b ∷ bs) p.0 p.1 symbol)

pub made_token : (line : List ℕ) (t : Token) (rest : List ℕ) → token_front (after_blanks line) ≡ Some (t, rest) → CutsOff line t rest
made_token line t rest e =
    let stands = token_stands (after_blanks line) t rest e in
    record {
      blanks = take (prefix_len is_blank line) line;
      text = stands.text;
      parts = sym (take-append-drop (prefix_len is_blank line) line) ∙ ap (λ (x : List ℕ). take (prefix_len is_blank line) line ++ x) stands.parts;
      all_blank = run_passes is_blank line;
      spelled = stands.spelled;
      longest = stands.longest;
    }

pub made_end : (line : List ℕ) → is_comment (after_blanks line) ≡ true → IsTail line
made_end line e = record {
  blanks = take (prefix_len is_blank line) line;
  comment = after_blanks line;
  parts = sym (take-append-drop (prefix_len is_blank line) line);
  all_blank = run_passes is_blank line;
  ended = e;
}

abbrev pub nothing : Option (Token × List ℕ)
nothing = None

pub none_or_some : (p : Token × List ℕ) → nothing ≡ here p → ⊥
none_or_some p e = absurd cc

-- no token begins where the line is over
pub over_or_token : (bytes : List ℕ) (p : Token × List ℕ) → token_front bytes ≡ Some p → is_comment bytes ≡ false
unfolding token_front symbol_front pair_of single_of
over_or_token [] p e = absurd cc
over_or_token (a ∷ []) p e = refl
over_or_token (a ∷ b ∷ bs) p e = by (eqb a 47) refl (eqb b 47) refl
  where
    by : (x : Bool) → eqb a 47 ≡ x → (y : Bool) → eqb b 47 ≡ y → (x && y) ≡ false
    by false ex y ey = refl
    by true ex false ey = refl
    by true ex true ey =
        let none : token_front (47 ∷ 47 ∷ bs) ≡ nothing = refl in
        let some : token_front (47 ∷ 47 ∷ bs) ≡ here p = subst (λ (n : ℕ). token_front (n ∷ 47 ∷ bs) ≡ here p) (eqb-true a 47 ex) (subst (λ (n : ℕ). token_front (a ∷ n ∷ bs) ≡ here p) (eqb-true b 47 ey) e) in
        absurd (none_or_some p (sym none ∙ some))
