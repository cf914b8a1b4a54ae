-- A row of tokens is read as it is spelled.
use Rattle.std.proofs.Common.{◌≡◌, ℕ, zero, suc, ◌+◌, ◌-◌, ◌<◌, ◌≤◌, Bool, true, false, cond, eqb, ltb, leb, ◌&&◌, List, [], ◌∷◌, Option, Some, None, refl, ap, sym, subst, ◌∙◌, arith}
use Rattle.std.specs.Prelude.{codes}
use Rattle.std.specs.Option.{option_map}
use Rattle.std.specs.Str.{bytes_eq}
use Rattle.std.proofs.lemmas.Bool.{eqb-true, ltb-true, leb-true, and_parts}
use Rattle.std.proofs.lemmas.Slice.Eq.{bytes_eq-Decides}
use Rattle.std.proofs.lemmas.Option.{cond_some}
use Rattle.lit_read.specs.declared.forms.Form as lines
use Rattle.lit_syntax.specs.declared.symbol.Symbol.{Symbol}
use Rattle.lit_syntax.specs.declared.symbol.Symbol.TheVariants.{Same, Differs, And, Or, Gives, Not, OpenBracket, CloseBracket, OpenParen, CloseParen, OpenBrace, CloseBrace, Comma, Dot}
use Rattle.lit_syntax.specs.declared.limits.TheConstants.{REGISTERS}
use Rattle.lit_syntax.specs.Syntax.{Window, Uint8, Uint16, Uint32, is_data_view}
use Rattle.lit_syntax.specs.Tokens.{Token, Word, Number, Sign}
use Rattle.lit_syntax.specs.Written.{register_word}
use Rattle.lit_syntax.specs.Forms.{Form, window_word}
use Rattle.lit_read.specs.Internal.FirstToken.{or_else}
use Rattle.lit_read.specs.Internal.FormOfTokens.{◌>>=◌, symbol_code, after_sign, word_of, number_of, after_word, register_number, register_of, window_named, view_of, relation_of, ended, Item, Symbols, Keyword, Name, Register, View, Amount, Relation, Told, along, front, ToldParts, in_parts}
use Rattle.lit_read.specs.Internal.Views.{form_view}
use Rattle.lit_read.proofs.CutLemmas.{pair_parts}

pub ended_view : (ts : List Token) (f : lines.Form) → option_map form_view (ended ts f) ≡ ended ts (form_view f)
ended_view [] f = refl
ended_view (t ∷ ts) f = refl

pub bind_some : {A B : Type 0} (o : Option A) (f : A → Option B) (y : B) → (o >>= f) ≡ Some y → (x : A) × (o ≡ Some x) × (f x ≡ Some y)
bind_some None f y e = absurd cc
bind_some (Some x) f y e = (x, refl, e)

-- ---- one symbol

symbol_with : ℕ → Symbol
symbol_with n =
    cond (eqb n 0) Same (cond (eqb n 1) Differs (cond (eqb n 2) And (cond (eqb n 3) Or (cond (eqb n 4) Gives (cond (eqb n 5) Not
    (cond (eqb n 6) OpenBracket (cond (eqb n 7) CloseBracket (cond (eqb n 8) OpenParen (cond (eqb n 9) CloseParen (cond (eqb n 10) OpenBrace
    (cond (eqb n 11) CloseBrace (cond (eqb n 12) Comma Dot))))))))))))

symbol_back : (s : Symbol) → symbol_with (symbol_code s) ≡ s
unfolding symbol_with
symbol_back Same = refl
symbol_back Differs = refl
symbol_back And = refl
symbol_back Or = refl
symbol_back Gives = refl
symbol_back Not = refl
symbol_back OpenBracket = refl
symbol_back CloseBracket = refl
symbol_back OpenParen = refl
symbol_back CloseParen = refl
symbol_back OpenBrace = refl
symbol_back CloseBrace = refl
symbol_back Comma = refl
symbol_back Dot = refl

symbol_same : (s t : Symbol) → symbol_code s ≡ symbol_code t → s ≡ t
symbol_same s t e = sym (symbol_back s) ∙ ap symbol_with e ∙ symbol_back t

-- ---- the token at the front

pub sign_is : (ts : List Token) (sign : Symbol) (rest : List Token) → after_sign ts sign ≡ Some rest → ts ≡ Sign sign ∷ rest
unfolding after_sign
sign_is [] sign rest e = absurd cc
sign_is (Word w ∷ ts) sign rest e = absurd cc
sign_is (Number n ∷ ts) sign rest e = absurd cc
sign_is (Sign s ∷ ts) sign rest e =
    let p = cond_some (eqb (symbol_code s) (symbol_code sign)) ts rest e in
    let same : s ≡ sign = symbol_same s sign (eqb-true _ _ p.0) in
    let others : ts ≡ rest = p.1 in
    cc

word_is : (ts : List Token) (w : List ℕ) (rest : List Token) → word_of ts ≡ Some (w, rest) → ts ≡ Word w ∷ rest
unfolding word_of
word_is [] w rest e = absurd cc
word_is (Word v ∷ ts) w rest e = let p = pair_parts v w ts rest e in let same : v ≡ w = p.0 in let others : ts ≡ rest = p.1 in cc
word_is (Number n ∷ ts) w rest e = absurd cc
word_is (Sign s ∷ ts) w rest e = absurd cc

number_is : (ts : List Token) (n : ℕ) (rest : List Token) → number_of ts ≡ Some (n, rest) → ts ≡ Number n ∷ rest
unfolding number_of
number_is [] n rest e = absurd cc
number_is (Word v ∷ ts) n rest e = absurd cc
number_is (Number m ∷ ts) n rest e = let p = pair_parts m n ts rest e in let same : m ≡ n = p.0 in let others : ts ≡ rest = p.1 in cc
number_is (Sign s ∷ ts) n rest e = absurd cc

pub after_word_is : (ts : List Token) (text : List ℕ) (rest : List Token) → after_word ts text ≡ Some rest → ts ≡ Word text ∷ rest
unfolding after_word
after_word_is ts text rest e =
    let a = bind_some (word_of ts) (λ word. cond (bytes_eq word.0 text) (Some word.1) None) rest e in
    let p = cond_some (bytes_eq a.0.0 text) a.0.1 rest a.2 in
    let same : a.0.0 ≡ text = (bytes_eq-Decides a.0.0 text).0 p.0 in
    let others : a.0.1 ≡ rest = p.1 in
    let first : ts ≡ Word a.0.0 ∷ a.0.1 = word_is ts a.0.0 a.0.1 a.1 in
    cc

register_number_is : (w : List ℕ) (reg : ℕ) → register_number w ≡ Some reg → (w ≡ register_word reg) × (reg < REGISTERS)
unfolding register_number
register_number_is [] reg e = absurd cc
register_number_is (a ∷ []) reg e = absurd cc
register_number_is (a ∷ b ∷ c ∷ w) reg e = absurd cc
register_number_is (a ∷ b ∷ []) reg e =
    let p = cond_some ((eqb a 114 && leb 48 b) && ltb (b - 48) REGISTERS) (b - 48) reg e in
    let outer = and_parts (eqb a 114 && leb 48 b) (ltb (b - 48) REGISTERS) p.0 in
    let inner = and_parts (eqb a 114) (leb 48 b) outer.0 in
    let a_is : a ≡ 114 = eqb-true a 114 inner.0 in
    let low : 48 ≤ b = leb-true 48 b inner.1 in
    let reg_is : b - 48 ≡ reg = p.1 in
    let b_is : b ≡ 48 + reg = omega arith in
    let below : b - 48 < REGISTERS = ltb-true _ _ outer.1 in
    (rw (a_is, b_is) refl, rw (← reg_is) below)

register_is : (ts : List Token) (reg : ℕ) (rest : List Token) → register_of ts ≡ Some (reg, rest) → (ts ≡ Word (register_word reg) ∷ rest) × (reg < REGISTERS)
unfolding register_of
register_is ts reg rest e =
    let a = bind_some (word_of ts) (λ word. register_number word.0 >>= λ reg. Some (reg, word.1)) (reg, rest) e in
    let b = bind_some (register_number a.0.0) (λ reg. Some (reg, a.0.1)) (reg, rest) a.2 in
    let p = pair_parts b.0 reg a.0.1 rest b.2 in
    let r = register_number_is a.0.0 b.0 b.1 in
    let first : ts ≡ Word a.0.0 ∷ a.0.1 = word_is ts a.0.0 a.0.1 a.1 in
    (rw (first, r.0, p.0, p.1) refl, rw (← p.0) r.1)

window_is : (word : List ℕ) (w : Window) → window_named word ≡ Some w → (word ≡ window_word w) × (is_data_view w ≡ false)
unfolding window_named
window_is word w e = by (bytes_eq word (codes "U8")) refl (bytes_eq word (codes "U16")) refl (bytes_eq word (codes "U32")) refl e
  where
    told : (v : Window) → is_data_view v ≡ false → bytes_eq word (window_word v) ≡ true → v ≡ w → (word ≡ window_word w) × (is_data_view w ≡ false)
    told v typed is same = subst (λ (x : Window). (word ≡ window_word x) × (is_data_view x ≡ false)) same ((bytes_eq-Decides word (window_word v)).0 is, typed)

    by : (a : Bool) → bytes_eq word (codes "U8") ≡ a → (b : Bool) → bytes_eq word (codes "U16") ≡ b → (c : Bool) → bytes_eq word (codes "U32") ≡ c
        → cond a (Some Uint8) (cond b (Some Uint16) (cond c (Some Uint32) None)) ≡ Some w → (word ≡ window_word w) × (is_data_view w ≡ false)
    by true a_is b b_is c c_is h = told Uint8 refl a_is cc
    by false a_is true b_is c c_is h = told Uint16 refl b_is cc
    by false a_is false b_is true c_is h = told Uint32 refl c_is cc
    by false a_is false b_is false c_is h = absurd cc

view_is : (ts : List Token) (w : Window) (rest : List Token) → view_of ts ≡ Some (w, rest) → (ts ≡ Word (window_word w) ∷ rest) × (is_data_view w ≡ false)
unfolding view_of
view_is ts w rest e =
    let a = bind_some (word_of ts) (λ word. window_named word.0 >>= λ view. Some (view, word.1)) (w, rest) e in
    let b = bind_some (window_named a.0.0) (λ view. Some (view, a.0.1)) (w, rest) a.2 in
    let p = pair_parts b.0 w a.0.1 rest b.2 in
    let named = window_is a.0.0 b.0 b.1 in
    let first : ts ≡ Word a.0.0 ∷ a.0.1 = word_is ts a.0.0 a.0.1 a.1 in
    (first ∙ ap (λ (x : List ℕ). Word x ∷ a.0.1) (named.0 ∙ ap window_word p.0) ∙ ap (λ (x : List Token). Word (window_word w) ∷ x) p.1, ap is_data_view (sym p.0) ∙ named.1)

abbrev with_side : Bool → Option (List Token) → Option (Bool × List Token)
with_side side o = option_map (λ rest. (side, rest)) o

relation_is : (ts : List Token) (equal : Bool) (rest : List Token) → relation_of ts ≡ Some (equal, rest) → ts ≡ Sign (cond equal Same Differs) ∷ rest
unfolding relation_of
relation_is ts equal rest e = by (after_sign ts Same) refl (after_sign ts Differs) refl e
  where
    by : (o : Option (List Token)) → after_sign ts Same ≡ o → (p : Option (List Token)) → after_sign ts Differs ≡ p
        → or_else (with_side true o) (with_side false p) ≡ Some (equal, rest) → ts ≡ Sign (cond equal Same Differs) ∷ rest
    by (Some r) o_is p p_is h = let q = pair_parts true equal r rest h in rw (← q.0, ← q.1) (sign_is ts Same r o_is)
    by None o_is (Some r) p_is h = let q = pair_parts false equal r rest h in rw (← q.0, ← q.1) (sign_is ts Differs r p_is)
    by None o_is None p_is h = absurd cc

-- ---- a form that is spelled is computed

pub register_number_again : (reg : ℕ) → reg < REGISTERS → register_number (register_word reg) ≡ Some reg
unfolding register_number
register_number_again zero h = refl
register_number_again (suc zero) h = refl
register_number_again (suc (suc zero)) h = refl
register_number_again (suc (suc (suc zero))) h = refl
register_number_again (suc (suc (suc (suc zero)))) h = refl
register_number_again (suc (suc (suc (suc (suc zero))))) h = refl
register_number_again (suc (suc (suc (suc (suc (suc zero)))))) h = refl
register_number_again (suc (suc (suc (suc (suc (suc (suc zero))))))) h = refl
register_number_again (suc (suc (suc (suc (suc (suc (suc (suc n)))))))) h = absurd (omega arith)

pub relation_again : (equal : Bool) (rest : List Token) → relation_of (Sign (cond equal Same Differs) ∷ rest) ≡ Some (equal, rest)
unfolding relation_of after_sign
relation_again true rest = refl
relation_again false rest = refl

-- ---- rows

-- the tokens of a row, and those behind it
abbrev pub row : (items : List Item) → Told items → List Token → List Token
row [] told rest = rest
row (Symbols s ∷ is) told rest = Sign s ∷ row is told rest
row (Keyword w ∷ is) told rest = Word w ∷ row is told rest
row (Name ∷ is) told rest = Word told.0 ∷ row is told.1 rest
row (Register ∷ is) told rest = Word (register_word told.0) ∷ row is told.1 rest
row (View ∷ is) told rest = Word (window_word told.0) ∷ row is told.1 rest
row (Amount ∷ is) told rest = Number told.0 ∷ row is told.1 rest
row (Relation ∷ is) told rest = Sign (cond told.0 Same Differs) ∷ row is told.1 rest

-- what a row can tell
abbrev pub Fits : (items : List Item) → Told items → Type 0
Fits [] told = Unit {0}
Fits (Symbols s ∷ is) told = Fits is told
Fits (Keyword w ∷ is) told = Fits is told
Fits (Name ∷ is) told = Fits is told.1
Fits (Register ∷ is) told = (told.0 < REGISTERS) × Fits is told.1
Fits (View ∷ is) told = (is_data_view told.0 ≡ false) × Fits is told.1
Fits (Amount ∷ is) told = Fits is told.1
Fits (Relation ∷ is) told = Fits is told.1

pub record Along {A : Type 0} (items : List Item) (ts : List Token) (made : Told items → List Token → Option A) (y : A) : Type 0 where
  pub told : Told items
  pub rest : List Token
  pub parts : ts ≡ row items told rest
  pub fits : Fits items told
  pub is : made told rest ≡ Some y

pub along_is : {A : Type 0} (items : List Item) (ts : List Token) (made : Told items → List Token → Option A) (y : A) → along items ts made ≡ Some y → Along items ts made y
along_is [] ts made y e = record { told = tt; rest = ts; parts = refl; fits = tt; is = e }
along_is (Symbols s ∷ is) ts made y e =
    let a = bind_some (after_sign ts s) (λ rest. along is rest made) y e in
    let b = along_is is a.0 made y a.2 in
    record { told = b.told; rest = b.rest; parts = sign_is ts s a.0 a.1 ∙ ap (λ (x : List Token). Sign s ∷ x) b.parts; fits = b.fits; is = b.is }
along_is (Keyword w ∷ is) ts made y e =
    let a = bind_some (after_word ts w) (λ rest. along is rest made) y e in
    let b = along_is is a.0 made y a.2 in
    record { told = b.told; rest = b.rest; parts = after_word_is ts w a.0 a.1 ∙ ap (λ (x : List Token). Word w ∷ x) b.parts; fits = b.fits; is = b.is }
along_is (Name ∷ is) ts made y e =
    let a = bind_some (word_of ts) (λ word. along is word.1 (λ told rest. made (word.0, told) rest)) y e in
    let b = along_is is a.0.1 (λ told rest. made (a.0.0, told) rest) y a.2 in
    record { told = (a.0.0, b.told); rest = b.rest; parts = word_is ts a.0.0 a.0.1 a.1 ∙ ap (λ (x : List Token). Word a.0.0 ∷ x) b.parts; fits = b.fits; is = b.is }
along_is (Register ∷ is) ts made y e =
    let a = bind_some (register_of ts) (λ reg. along is reg.1 (λ told rest. made (reg.0, told) rest)) y e in
    let b = along_is is a.0.1 (λ told rest. made (a.0.0, told) rest) y a.2 in
    let r = register_is ts a.0.0 a.0.1 a.1 in
    record { told = (a.0.0, b.told); rest = b.rest; parts = r.0 ∙ ap (λ (x : List Token). Word (register_word a.0.0) ∷ x) b.parts; fits = (r.1, b.fits); is = b.is }
along_is (View ∷ is) ts made y e =
    let a = bind_some (view_of ts) (λ view. along is view.1 (λ told rest. made (view.0, told) rest)) y e in
    let b = along_is is a.0.1 (λ told rest. made (a.0.0, told) rest) y a.2 in
    let r = view_is ts a.0.0 a.0.1 a.1 in
    record { told = (a.0.0, b.told); rest = b.rest; parts = r.0 ∙ ap (λ (x : List Token). Word (window_word a.0.0) ∷ x) b.parts; fits = (r.1, b.fits); is = b.is }
along_is (Amount ∷ is) ts made y e =
    let a = bind_some (number_of ts) (λ number. along is number.1 (λ told rest. made (number.0, told) rest)) y e in
    let b = along_is is a.0.1 (λ told rest. made (a.0.0, told) rest) y a.2 in
    record { told = (a.0.0, b.told); rest = b.rest; parts = number_is ts a.0.0 a.0.1 a.1 ∙ ap (λ (x : List Token). Number a.0.0 ∷ x) b.parts; fits = b.fits; is = b.is }
along_is (Relation ∷ is) ts made y e =
    let a = bind_some (relation_of ts) (λ relation. along is relation.1 (λ told rest. made (relation.0, told) rest)) y e in
    let b = along_is is a.0.1 (λ told rest. made (a.0.0, told) rest) y a.2 in
    record { told = (a.0.0, b.told); rest = b.rest; parts = relation_is ts a.0.0 a.0.1 a.1 ∙ ap (λ (x : List Token). Sign (cond a.0.0 Same Differs) ∷ x) b.parts; fits = b.fits; is = b.is }

ended_is : {A : Type 0} (ts : List Token) (x y : A) → ended ts x ≡ Some y → (ts ≡ []) × (x ≡ y)
ended_is [] x y e = (refl, cc)
ended_is (t ∷ ts) x y e = absurd cc

-- ---- rows one behind the other

abbrev pub parts_row : (parts : List (List Item)) → ToldParts parts → List Token
parts_row [] told = []
parts_row (items ∷ parts) told = row items told.0 (parts_row parts told.1)

abbrev pub PartsFit : (parts : List (List Item)) → ToldParts parts → Type 0
PartsFit [] told = Unit {0}
PartsFit (items ∷ parts) told = Fits items told.0 × PartsFit parts told.1

pub record InParts (parts : List (List Item)) (ts : List Token) (made : ToldParts parts → Form) (f : Form) : Type 0 where
  pub told : ToldParts parts
  pub spells : ts ≡ parts_row parts told
  pub fits : PartsFit parts told
  pub is : made told ≡ f

pub in_parts_is : (parts : List (List Item)) (ts : List Token) (made : ToldParts parts → Form) (f : Form) → in_parts parts ts made ≡ Some f → InParts parts ts made f
unfolding front
in_parts_is [] ts made f e = let b = ended_is ts (made tt) f e in record { told = tt; spells = b.0; fits = tt; is = b.1 }
in_parts_is (items ∷ parts) ts made f e =
    let a = bind_some (front items ts) (λ part. in_parts parts part.1 (λ told. made (part.0, told))) f e in
    let b = along_is items ts (λ told rest. Some (told, rest)) a.0 a.1 in
    let c = in_parts_is parts a.0.1 (λ told. made (a.0.0, told)) f a.2 in
    let p = pair_parts b.told a.0.0 b.rest a.0.1 b.is in
    record {
      told = (a.0.0, c.told);
      spells = b.parts ∙ ap (λ (x : Told items). row items x b.rest) p.0 ∙ ap (λ (x : List Token). row items a.0.0 x) (p.1 ∙ c.spells);
      fits = (subst (Fits items) p.0 b.fits, c.fits);
      is = c.is;
    }
