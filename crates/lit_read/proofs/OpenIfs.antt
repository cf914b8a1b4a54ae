-- Which `if`s are open behind an agent's forms, none of them misplaced.
use Rattle.std.proofs.Common.{◌≡◌, ℕ, Bool, true, false, not, ◌||◌, ◌&&◌, List, [], ◌∷◌, ◌++◌, Some, None, inl, inr, refl, ap, sym, subst, ◌∙◌, append_assoc}
use Rattle.std.specs.Prelude.{fold}
use Rattle.std.specs.List.{list_any, AllByRecursion}
use Rattle.std.proofs.lemmas.List.{append-nil}
use Rattle.std.proofs.lemmas.Bool.{and_parts}
use Rattle.std.proofs.lemmas.List.Sums.{fold-append}
use Rattle.std.proofs.lemmas.List.Folds.{list_any-append}
use Rattle.lit_syntax.specs.Syntax.{Statement, Statements, Load, Store, Exchange, CompareExchange, If, End, Then}
use Rattle.lit_syntax.specs.Tokens.{begins_with}
use Rattle.lit_syntax.specs.Forms.{Form, Blank, TestLine, BytesLine, AgentLine, StatementLine, IfLine, ElseLine, EndLine, CheckLine, IsForm}
use Rattle.lit_read.specs.Structure.{is_body_line, IsStatement, AreStatements, IsOpenPart, LeaveOpen}
use Rattle.lit_read.specs.Faults.{is_check_line, names_of, is_begun, open_behind, open_ifs, is_empty, is_misplaced, none_misplaced}
use Rattle.lit_read.specs.Internal.State.{followed_by}
use Rattle.lit_read.proofs.SpellLemmas.{AreElse, else_lines, are_body_lines, statement_open, statements_open, statements_added, or_right_false}
use Rattle.lit_read.proofs.DraftForms.{IsOther, other_check, names_skip, not_not}
use Rattle.lit_read.proofs.StepHolds.{access_line, if_lines}
use Rattle.lit_read.proofs.TestForms.{new_open_if}

-- ---- forms that fit behind these open `if`s

abbrev fits : List Bool → Form → Bool
fits o (StatementLine s) = true
fits o (IfLine r q v) = true
fits o ElseLine = begins_with not o
fits o EndLine = not (is_empty o)
fits o _ = false

abbrev all_fit : List Bool → List Form → Bool
all_fit o [] = true
all_fit o (f ∷ fs) = fits o f && all_fit (open_behind o f) fs

fits_body : (o : List Bool) (f : Form) → fits o f ≡ true → is_body_line f ≡ true
fits_body o (StatementLine s) h = refl
fits_body o (IfLine r q v) h = refl
fits_body o ElseLine h = refl
fits_body o EndLine h = refl
fits_body o Blank h = absurd cc
fits_body o (TestLine n) h = absurd cc
fits_body o (BytesLine b) h = absurd cc
fits_body o (AgentLine n) h = absurd cc
fits_body o (CheckLine w) h = absurd cc

fit_body : (o : List Bool) (fs : List Form) → all_fit o fs ≡ true → are_body_lines fs ≡ true
fit_body o [] h = refl
fit_body o (f ∷ fs) h = let b = and_parts (fits o f) (all_fit (open_behind o f) fs) h in rw (fits_body o f b.0) (fit_body (open_behind o f) fs b.1)

fit_joined : (o : List Bool) (xs ys : List Form) → all_fit o xs ≡ true → all_fit (fold open_behind o xs) ys ≡ true → all_fit o (xs ++ ys) ≡ true
fit_joined o [] ys a b = b
fit_joined o (x ∷ xs) ys a b = let c = and_parts (fits o x) (all_fit (open_behind o x) xs) a in rw c.0 (fit_joined (open_behind o x) xs ys c.1 b)

-- ---- they are those that are not misplaced

placed_is : (given : List Form) (f : Form) → is_begun given ≡ true → is_body_line f ≡ true → not (is_misplaced given f) ≡ fits (open_ifs given) f
placed_is given (StatementLine s) begun body = rw begun refl
placed_is given (IfLine r q v) begun body = rw begun refl
placed_is given ElseLine begun body = rw begun (sym (not_not (begins_with not (open_ifs given))))
placed_is given EndLine begun body = rw begun refl
placed_is given Blank begun body = absurd cc
placed_is given (TestLine n) begun body = absurd cc
placed_is given (BytesLine b) begun body = absurd cc
placed_is given (AgentLine n) begun body = absurd cc
placed_is given (CheckLine w) begun body = absurd cc

names_on : (given : List Form) (f : Form) → is_body_line f ≡ true → names_of (given ++ f ∷ []) ≡ names_of given
names_on [] f body = names_skip (f ∷ []) [] (rw body refl)
names_on (AgentLine n ∷ fs) f body = ap (λ (l : List (List ℕ)). n ∷ l) (names_on fs f body)
names_on (Blank ∷ fs) f body = names_on fs f body
names_on (TestLine n ∷ fs) f body = names_on fs f body
names_on (BytesLine b ∷ fs) f body = names_on fs f body
names_on (StatementLine s ∷ fs) f body = names_on fs f body
names_on (IfLine r q v ∷ fs) f body = names_on fs f body
names_on (ElseLine ∷ fs) f body = names_on fs f body
names_on (EndLine ∷ fs) f body = names_on fs f body
names_on (CheckLine w ∷ fs) f body = names_on fs f body

any_more : (p : Form → Bool) (given : List Form) (f : Form) → IsOther p → is_body_line f ≡ true → list_any p (given ++ f ∷ []) ≡ list_any p given
any_more p given f other body = list_any-append p given (f ∷ []) ∙ ap (λ (b : Bool). list_any p given || (b || false)) (other f body) ∙ or_right_false (list_any p given)

begun_on : (given : List Form) (f : Form) → is_begun given ≡ true → is_body_line f ≡ true → is_begun (given ++ f ∷ []) ≡ true
begun_on given f begun body = rw (names_on given f body, any_more is_check_line given f other_check body) begun

all_placed : (given fs : List Form) → is_begun given ≡ true → are_body_lines fs ≡ true → none_misplaced given fs ≡ all_fit (open_ifs given) fs
all_placed given [] begun body = refl
all_placed given (f ∷ fs) begun body =
    let b = and_parts (is_body_line f) (are_body_lines fs) body in
    ap (λ (x : Bool). x && none_misplaced (given ++ f ∷ []) fs) (placed_is given f begun b.0)
    ∙ ap (λ (x : Bool). fits (open_ifs given) f && x) (all_placed (given ++ f ∷ []) fs (begun_on given f begun b.0) b.1 ∙ ap (λ (o : List Bool). all_fit o fs) (fold-append open_behind [] given (f ∷ [])))

-- ---- forms of statements fit, and leave open what was

mutual
  statement_fit : (fs : List Form) (s : Statement) (o : List Bool) → IsStatement fs s → all_fit o fs ≡ true
  statement_fit fs (Load r w i a) o h = ap (all_fit o) h
  statement_fit fs (Store w i v a) o h = ap (all_fit o) h
  statement_fit fs (Exchange r w i v) o h = ap (all_fit o) h
  statement_fit fs (CompareExchange r w i e v) o h = ap (all_fit o) h
  statement_fit fs (If r e v body other) o h =
      ap (all_fit o) h.2 ∙ fit_joined (false ∷ o) h.0 (h.1 ++ EndLine ∷ []) (statements_fit h.0 body (false ∷ o) h.3) (rw (statements_open h.0 body (false ∷ o) h.3) (else_fit h.1 other o (else_lines h.1 other h.4)))

  statements_fit : (fs : List Form) (ss : Statements) (o : List Bool) → AreStatements fs ss → all_fit o fs ≡ true
  statements_fit fs End o h = ap (all_fit o) h
  statements_fit fs (Then s ss) o h = ap (all_fit o) h.2 ∙ fit_joined o h.0 h.1 (statement_fit h.0 s o h.3) (rw (statement_open h.0 s o h.3) (statements_fit h.1 ss o h.4))

  else_fit : (fs : List Form) (ss : Statements) (o : List Bool) → AreElse fs ss → all_fit (false ∷ o) (fs ++ EndLine ∷ []) ≡ true
  else_fit fs End o (inl h) = ap (λ (l : List Form). all_fit (false ∷ o) (l ++ EndLine ∷ [])) h
  else_fit fs End o (inr h) = ap (λ (l : List Form). all_fit (false ∷ o) (l ++ EndLine ∷ [])) h
  else_fit fs (Then s ss) o h =
      let first : fold open_behind (true ∷ o) h.0 ≡ true ∷ o = statement_open h.0 s (true ∷ o) h.3 in
      let opens : fold open_behind (true ∷ o) (h.0 ++ h.1) ≡ true ∷ o = fold-append open_behind (true ∷ o) h.0 h.1 ∙ rw first (statements_open h.1 ss (true ∷ o) h.4) in
      ap (λ (l : List Form). all_fit (false ∷ o) (l ++ EndLine ∷ [])) h.2
      ∙ fit_joined (true ∷ o) (h.0 ++ h.1) (EndLine ∷ []) (fit_joined (true ∷ o) h.0 h.1 (statement_fit h.0 s (true ∷ o) h.3) (rw first (statements_fit h.1 ss (true ∷ o) h.4))) (rw opens refl)

-- the forms fit, and leave these `if`s open
abbrev Fit : List Bool → List Bool → List Form → Type 0
Fit before after fs = (all_fit before fs ≡ true) × (fold open_behind before fs ≡ after)

then_fit : (before middle after : List Bool) (xs ys : List Form) → Fit before middle xs → Fit middle after ys → Fit before after (xs ++ ys)
then_fit before middle after xs ys a b = (fit_joined before xs ys a.0 (rw a.1 b.0), fold-append open_behind before xs ys ∙ rw a.1 b.1)

all_statements : (fs : List Form) (ss : Statements) (o : List Bool) → AreStatements fs ss → Fit o o fs
all_statements fs ss o h = (statements_fit fs ss o h, statements_open fs ss o h)

part_fit : (x : Bool) (fs : List Form) (o : List Bool) → IsOpenPart x fs → Fit (false ∷ o) (x ∷ o) fs
part_fit false fs o h = all_statements fs h.0 (false ∷ o) h.1
part_fit true fs o h = rw h.4 (then_fit (false ∷ o) (false ∷ o) (true ∷ o) h.0 (ElseLine ∷ h.1) (all_statements h.0 h.2 (false ∷ o) h.5) (all_statements h.1 h.3 (true ∷ o) h.6))

open_fit : (o : List Bool) (fs : List Form) → LeaveOpen o fs → Fit [] o fs
open_fit [] fs h = all_statements fs h.0 [] h.1
open_fit (x ∷ o) fs h = rw h.5 (then_fit [] o (x ∷ o) h.0 (IfLine h.2 h.3 h.4 ∷ h.1) (open_fit o h.0 h.6) (part_fit x h.1 o h.7))

-- ---- forms that fit are those of statements and of open `if`s

part_left : (x : Bool) (inner gs : List Form) (s : Statement) → IsOpenPart x inner → IsStatement gs s → IsOpenPart x (inner ++ gs)
part_left false inner gs s h is = (followed_by h.0 s, statements_added inner gs h.0 s h.1 is)
part_left true inner gs s h is = (h.0, h.1 ++ gs, h.2, followed_by h.3 s, ap (λ (l : List Form). l ++ gs) h.4 ∙ append_assoc h.0 (ElseLine ∷ h.1) gs, h.5, statements_added h.1 gs h.3 s h.6 is)

behind_if : (fs outer inner gs : List Form) (r : ℕ) (q : Bool) (v : ℕ) → fs ≡ outer ++ IfLine r q v ∷ inner → fs ++ gs ≡ outer ++ IfLine r q v ∷ (inner ++ gs)
behind_if fs outer inner gs r q v e = ap (λ (l : List Form). l ++ gs) e ∙ append_assoc outer (IfLine r q v ∷ inner) gs

statement_left : (o : List Bool) (fs gs : List Form) (s : Statement) → LeaveOpen o fs → IsStatement gs s → LeaveOpen o (fs ++ gs)
statement_left [] fs gs s h is = (followed_by h.0 s, statements_added fs gs h.0 s h.1 is)
statement_left (x ∷ o) fs gs s h is = (h.0, h.1 ++ gs, h.2, h.3, h.4, behind_if fs h.0 h.1 gs h.2 h.3 h.4 h.5, h.6, part_left x h.1 gs s h.7 is)

whole_if : (x : Bool) (inner : List Form) (r : ℕ) (q : Bool) (v : ℕ) → IsOpenPart x inner → (s : Statement) × IsStatement (IfLine r q v ∷ (inner ++ EndLine ∷ [])) s
whole_if false inner r q v h = (If r q v h.0 End, if_lines (new_open_if r q v End) inner None h.0 h.1)
whole_if true inner r q v h = (If r q v h.2 h.3, if_lines (new_open_if r q v End) inner (Some h.2) h.3 (h.0, h.1, h.4, h.5, h.6))

form_left : (o : List Bool) (fs : List Form) (f : Form) → LeaveOpen o fs → fits o f ≡ true → IsForm f → LeaveOpen (open_behind o f) (fs ++ f ∷ [])
unfolding IsForm
form_left o fs (StatementLine s) h fit is = statement_left o fs (StatementLine s ∷ []) s h (access_line s is)
form_left o fs (IfLine r q v) h fit is = (fs, [], r, q, v, refl, h, (End, refl))
form_left (false ∷ o) fs ElseLine h fit is = (h.0, h.1 ++ ElseLine ∷ [], h.2, h.3, h.4, behind_if fs h.0 h.1 (ElseLine ∷ []) h.2 h.3 h.4 h.5, h.6, (h.1, [], h.7.0, End, refl, h.7.1, refl))
form_left (true ∷ o) fs ElseLine h fit is = absurd cc
form_left [] fs ElseLine h fit is = absurd cc
form_left (x ∷ o) fs EndLine h fit is =
    let ended = whole_if x h.1 h.2 h.3 h.4 h.7 in
    rw (behind_if fs h.0 h.1 (EndLine ∷ []) h.2 h.3 h.4 h.5) (statement_left o h.0 (IfLine h.2 h.3 h.4 ∷ (h.1 ++ EndLine ∷ [])) ended.0 h.6 ended.1)
form_left [] fs EndLine h fit is = absurd cc
form_left o fs Blank h fit is = absurd cc
form_left o fs (TestLine n) h fit is = absurd cc
form_left o fs (BytesLine b) h fit is = absurd cc
form_left o fs (AgentLine n) h fit is = absurd cc
form_left o fs (CheckLine w) h fit is = absurd cc

forms_left : (o : List Bool) (done fs : List Form) → LeaveOpen o done → all_fit o fs ≡ true → AllByRecursion IsForm fs → LeaveOpen (fold open_behind o fs) (done ++ fs)
forms_left o done [] h fit are = subst (LeaveOpen o) (sym (append-nil done)) h
forms_left o done (f ∷ fs) h fit are =
    let b = and_parts (fits o f) (all_fit (open_behind o f) fs) fit in
    subst (LeaveOpen (fold open_behind (open_behind o f) fs)) (append_assoc done (f ∷ []) fs) (forms_left (open_behind o f) (done ++ f ∷ []) fs (form_left o done f h b.0 are.0) b.1 are.1)

-- ---- behind an agent's line

module _ (given forms : List Form) (begun : is_begun given ≡ true) (none : open_ifs given ≡ []) where
  own_open : open_ifs (given ++ forms) ≡ open_ifs forms
  own_open = fold-append open_behind [] given forms ∙ ap (λ (o : List Bool). fold open_behind o forms) none

  placed_fit : are_body_lines forms ≡ true → none_misplaced given forms ≡ all_fit [] forms
  placed_fit body = all_placed given forms begun body ∙ ap (λ (o : List Bool). all_fit o forms) none

  pub left_open : are_body_lines forms ≡ true → AllByRecursion IsForm forms → none_misplaced given forms ≡ true → LeaveOpen (open_ifs (given ++ forms)) forms
  left_open body are placed = rw own_open (forms_left [] [] forms (End, refl) (sym (placed_fit body) ∙ placed) are)

  pub open_told : (opened : List Bool) → LeaveOpen opened forms → (none_misplaced given forms ≡ true) × (open_ifs (given ++ forms) ≡ opened)
  open_told opened h = let fit = open_fit opened forms h in (placed_fit (fit_body [] forms fit.0) ∙ fit.0, own_open ∙ fit.1)
