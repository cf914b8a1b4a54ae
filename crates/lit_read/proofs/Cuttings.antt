-- The tokens of a line, as the reader goes along them.
use Rattle.std.proofs.Common.{◌≡◌, ℕ, ◌<◌, ◌≤◌, true, false, List, [], ◌∷◌, ◌++◌, length, Some, None, refl, ap, sym, subst, ◌∙◌, arith, true≢false, append_assoc}
use Rattle.std.proofs.lemmas.List.{length-append, append-nil}
use Rattle.lit_syntax.specs.declared.symbol.Symbol.{Symbol}
use Rattle.lit_syntax.specs.declared.symbol.Symbol.TheVariants.{Same, Differs, And, Or, Gives, Not, OpenBracket, CloseBracket, OpenParen, CloseParen, OpenBrace, CloseBrace, Comma, Dot}
use Rattle.lit_syntax.specs.Tokens.{Token, Word, Number, Sign, begins_word, begins_with, symbol_text, IsTokenText, CutsInto}
use Rattle.lit_read.specs.Internal.FirstToken.{token_front, is_comment, after_blanks}
use Rattle.lit_read.proofs.CutLemmas.{cut_parts, cut_of, tail_parts, tail_of, lead_plain, pair_parts, none_or_some, cut_token, made_token, cut_end, made_end, over_or_token}

-- ---- the tokens of a line, so far

-- The line is cut into these tokens, and then into those of the rest, and in no other way.
pub record Cutting (line rest : List ℕ) (done : List Token) : Type 0 where
  pub goes_on : (more : List Token) → CutsInto rest more → CutsInto line (done ++ more)
  pub only : (tokens : List Token) → CutsInto line tokens → (more : List Token) × (tokens ≡ done ++ more) × CutsInto rest more

pub cutting_begins : (line : List ℕ) → Cutting line line []
cutting_begins line = record { goes_on = λ more cut. cut; only = λ tokens cut. (tokens, refl, cut) }

pub cutting_goes_on : (line rest after : List ℕ) (done : List Token) (t : Token) → token_front (after_blanks rest) ≡ Some (t, after) → Cutting line rest done → Cutting line after (done ++ t ∷ [])
cutting_goes_on line rest after done t e so_far = record {
  goes_on = λ more cut. rw (append_assoc done (t ∷ []) more) (so_far.goes_on (t ∷ more) (cut_of rest t more after (made_token rest t after e) cut));
  only = λ tokens cut. let old = so_far.only tokens cut in by old.0 old.1 old.2;
}
  where
    by : (more : List Token) {tokens : List Token} → tokens ≡ done ++ more → CutsInto rest more → (later : List Token) × (tokens ≡ (done ++ t ∷ []) ++ later) × CutsInto after later
    by [] is cut = absurd (true≢false (sym (cut_end rest (tail_parts rest cut)) ∙ over_or_token (after_blanks rest) (t, after) e))
    by (u ∷ us) is cut =
        let c = cut_parts rest u us cut in
        let parts = pair_parts u t c.0 after (sym (cut_token rest u c.0 c.1) ∙ e) in
        (us, is ∙ ap (λ (x : Token). done ++ x ∷ us) parts.0 ∙ sym (append_assoc done (t ∷ []) us), subst (λ (x : List ℕ). CutsInto x us) parts.1 c.2)

pub cutting_ends : (line rest : List ℕ) (done : List Token) → is_comment (after_blanks rest) ≡ true → Cutting line rest done → CutsInto line done
cutting_ends line rest done over so_far = subst (CutsInto line) (append-nil done) (so_far.goes_on [] (tail_of rest (made_end rest over)))

pub cutting_fails : (line rest : List ℕ) (done : List Token) → is_comment (after_blanks rest) ≡ false → token_front (after_blanks rest) ≡ None → Cutting line rest done → (tokens : List Token) → CutsInto line tokens → ⊥
cutting_fails line rest done left none so_far tokens cut = let old = so_far.only tokens cut in by old.0 old.2
  where
    by : (more : List Token) → CutsInto rest more → ⊥
    by [] tail = true≢false (sym (cut_end rest (tail_parts rest tail)) ∙ left)
    by (u ∷ us) cuts = let c = cut_parts rest u us cuts in none_or_some (u, c.0) (sym none ∙ cut_token rest u c.0 c.1)

-- a line is cut into tokens in one way at most
pub cut_once : (ts us : List Token) (line : List ℕ) → CutsInto line ts → CutsInto line us → ts ≡ us
cut_once [] [] line a b = refl
cut_once [] (u ∷ us) line a b =
    let d = cut_parts line u us b in absurd (true≢false (sym (cut_end line (tail_parts line a)) ∙ over_or_token (after_blanks line) (u, d.0) (cut_token line u d.0 d.1)))
cut_once (t ∷ ts) [] line a b =
    let c = cut_parts line t ts a in absurd (true≢false (sym (cut_end line (tail_parts line b)) ∙ over_or_token (after_blanks line) (t, c.0) (cut_token line t c.0 c.1)))
cut_once (t ∷ ts) (u ∷ us) line a b =
    let c = cut_parts line t ts a in
    let d = cut_parts line u us b in
    let parts = pair_parts t u c.0 d.0 (sym (cut_token line t c.0 c.1) ∙ cut_token line u d.0 d.1) in
    let t_is : t ≡ u = parts.0 in
    let rest : ts ≡ us = cut_once ts us d.0 (subst (λ (x : List ℕ). CutsInto x ts) parts.1 c.2) d.2 in
    cc

-- a token takes at least one byte
token_long : (t : Token) (text : List ℕ) → IsTokenText t text → 1 ≤ length text
token_long t (b ∷ bs) is = omega arith
token_long (Word word) [] is = absurd (true≢false (sym is.0.first ∙ ap (begins_with begins_word) (sym is.1)))
token_long (Number value) [] is = absurd (true≢false (sym (lead_plain [] is.0)))
token_long (Sign symbol) [] is = by symbol is
  where
    by : (s : Symbol) → [] ≡ symbol_text s → 1 ≤ 0
    by Same e = absurd cc
    by Differs e = absurd cc
    by And e = absurd cc
    by Or e = absurd cc
    by Gives e = absurd cc
    by Not e = absurd cc
    by OpenBracket e = absurd cc
    by CloseBracket e = absurd cc
    by OpenParen e = absurd cc
    by CloseParen e = absurd cc
    by OpenBrace e = absurd cc
    by CloseBrace e = absurd cc
    by Comma e = absurd cc
    by Dot e = absurd cc

pub cut_shorter : (line : List ℕ) (t : Token) (rest : List ℕ) → token_front (after_blanks line) ≡ Some (t, rest) → length rest < length line
cut_shorter line t rest e =
    let cut = made_token line t rest e in
    omega (arith, token_long t cut.text cut.spelled, ap length cut.parts, length-append cut.blanks (cut.text ++ rest), length-append cut.text rest)
