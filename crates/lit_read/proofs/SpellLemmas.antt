-- The forms of statements, agents and tests, and what the forms so far say of them.
use Rattle.std.proofs.Common.{◌≡◌, ℕ, Bool, true, false, eqb, ◌||◌, ◌&&◌, ◌⊎◌, List, [], ◌∷◌, ◌++◌, inl, inr, refl, ap, sym, ◌∙◌, append_assoc}
use Rattle.std.specs.Prelude.{fold}
use Rattle.std.specs.List.{list_any, list_all}
use Rattle.std.proofs.lemmas.List.{append-nil}
use Rattle.std.proofs.lemmas.List.Sums.{fold-append}
use Rattle.std.proofs.lemmas.List.Folds.{list_any-append}
use Rattle.lit_syntax.specs.Syntax.{Statement, Statements, Load, Store, Exchange, CompareExchange, If, End, Then, statement_writes, writes}
use Rattle.lit_syntax.specs.Forms.{Form, StatementLine, ElseLine, EndLine}
use Rattle.lit_read.specs.Structure.{is_body_line, IsStatement, AreStatements}
use Rattle.lit_read.specs.Faults.{open_behind}
use Rattle.lit_read.specs.Internal.State.{followed_by}

-- ---- lists

pub all_joined : {A : Type 0} (p : A → Bool) (xs ys : List A) → list_all p xs ≡ true → list_all p ys ≡ true → list_all p (xs ++ ys) ≡ true
all_joined p [] ys a b = b
all_joined p (x ∷ xs) ys a b = by (p x) refl a (all_joined p xs ys)
  where
    by : (t : Bool) → p x ≡ t → (t && list_all p xs) ≡ true → (list_all p xs ≡ true → list_all p ys ≡ true → list_all p (xs ++ ys) ≡ true) → (p x && list_all p (xs ++ ys)) ≡ true
    by true e h f = rw e (f h b)
    by false e h f = absurd cc

-- ---- the forms of statements

-- no else line and an empty else-part, or the else line and the lines of the else-part
abbrev pub HasElse : List Form → Statements → Type 0
HasElse forms other = ((forms ≡ []) × (other ≡ End)) ⊎ ((lines : List Form) × (forms ≡ ElseLine ∷ lines) × AreStatements lines other)

-- the same, from the else-part
abbrev pub AreElse : List Form → Statements → Type 0
AreElse forms End = (forms ≡ []) ⊎ (forms ≡ ElseLine ∷ [])
AreElse forms (Then s ss) = (first others : List Form) × (forms ≡ ElseLine ∷ (first ++ others)) × IsStatement first s × AreStatements others ss

pub else_lines : (fs : List Form) (ss : Statements) → HasElse fs ss → AreElse fs ss
else_lines fs End (inl h) = inl h.0
else_lines fs (Then s ss) (inl h) = let e : Then s ss ≡ End = h.1 in absurd cc
else_lines fs End (inr h) = inr (h.1 ∙ ap (λ (l : List Form). ElseLine ∷ l) h.2)
else_lines fs (Then s ss) (inr h) = (h.2.0, h.2.1, h.1 ∙ ap (λ (l : List Form). ElseLine ∷ l) h.2.2, h.2.3, h.2.4)

abbrev pub are_body_lines : List Form → Bool
are_body_lines fs = list_all is_body_line fs

mutual
  pub statement_body : (fs : List Form) (s : Statement) → IsStatement fs s → are_body_lines fs ≡ true
  statement_body fs (Load r w i a) h = ap are_body_lines h
  statement_body fs (Store w i v a) h = ap are_body_lines h
  statement_body fs (Exchange r w i v) h = ap are_body_lines h
  statement_body fs (CompareExchange r w i e v) h = ap are_body_lines h
  statement_body fs (If r e v body other) h =
      ap are_body_lines h.2 ∙ all_joined is_body_line h.0 (h.1 ++ EndLine ∷ []) (statements_body h.0 body h.3) (all_joined is_body_line h.1 (EndLine ∷ []) (else_body h.1 other (else_lines h.1 other h.4)) refl)

  pub statements_body : (fs : List Form) (ss : Statements) → AreStatements fs ss → are_body_lines fs ≡ true
  statements_body fs End h = ap are_body_lines h
  statements_body fs (Then s ss) h = ap are_body_lines h.2 ∙ all_joined is_body_line h.0 h.1 (statement_body h.0 s h.3) (statements_body h.1 ss h.4)

  pub else_body : (fs : List Form) (ss : Statements) → AreElse fs ss → are_body_lines fs ≡ true
  else_body fs End (inl h) = ap are_body_lines h
  else_body fs End (inr h) = ap are_body_lines h
  else_body fs (Then s ss) h = ap are_body_lines h.2 ∙ all_joined is_body_line h.0 h.1 (statement_body h.0 s h.3) (statements_body h.1 ss h.4)

-- ---- what is open behind them

mutual
  pub statement_open : (fs : List Form) (s : Statement) (o : List Bool) → IsStatement fs s → fold open_behind o fs ≡ o
  statement_open fs (Load r w i a) o h = ap (fold open_behind o) h
  statement_open fs (Store w i v a) o h = ap (fold open_behind o) h
  statement_open fs (Exchange r w i v) o h = ap (fold open_behind o) h
  statement_open fs (CompareExchange r w i e v) o h = ap (fold open_behind o) h
  statement_open fs (If r e v body other) o h =
      ap (fold open_behind o) h.2 ∙ fold-append open_behind (false ∷ o) h.0 (h.1 ++ EndLine ∷ []) ∙ ap (λ (p : List Bool). fold open_behind p (h.1 ++ EndLine ∷ [])) (statements_open h.0 body (false ∷ o) h.3)
      ∙ fold-append open_behind (false ∷ o) h.1 (EndLine ∷ []) ∙ (let p = else_open h.1 other o (else_lines h.1 other h.4) in ap (λ (q : List Bool). fold open_behind q (EndLine ∷ [])) p.1)

  pub statements_open : (fs : List Form) (ss : Statements) (o : List Bool) → AreStatements fs ss → fold open_behind o fs ≡ o
  statements_open fs End o h = ap (fold open_behind o) h
  statements_open fs (Then s ss) o h = ap (fold open_behind o) h.2 ∙ fold-append open_behind o h.0 h.1 ∙ ap (λ (p : List Bool). fold open_behind p h.1) (statement_open h.0 s o h.3) ∙ statements_open h.1 ss o h.4

  pub else_open : (fs : List Form) (ss : Statements) (o : List Bool) → AreElse fs ss → (b : Bool) × (fold open_behind (false ∷ o) fs ≡ b ∷ o)
  else_open fs End o (inl h) = (false, ap (fold open_behind (false ∷ o)) h)
  else_open fs End o (inr h) = (true, ap (fold open_behind (false ∷ o)) h)
  else_open fs (Then s ss) o h =
      (true, ap (fold open_behind (false ∷ o)) h.2 ∙ fold-append open_behind (true ∷ o) h.0 h.1 ∙ ap (λ (p : List Bool). fold open_behind p h.1) (statement_open h.0 s (true ∷ o) h.3) ∙ statements_open h.1 ss (true ∷ o) h.4)

-- ---- which registers they write

pub or_right_false : (x : Bool) → (x || false) ≡ x
or_right_false true = refl
or_right_false false = refl

-- whether a line writes the register
abbrev pub line_writes : ℕ → Form → Bool
line_writes reg (StatementLine s) = statement_writes s reg
line_writes reg _ = false

abbrev pub any_writes : ℕ → List Form → Bool
any_writes reg fs = list_any (line_writes reg) fs

mutual
  pub statement_wrote : (fs : List Form) (s : Statement) (reg : ℕ) → IsStatement fs s → any_writes reg fs ≡ statement_writes s reg
  statement_wrote fs (Load r w i a) reg h = ap (any_writes reg) h ∙ or_right_false (eqb r reg)
  statement_wrote fs (Store w i v a) reg h = ap (any_writes reg) h
  statement_wrote fs (Exchange r w i v) reg h = ap (any_writes reg) h ∙ or_right_false (eqb r reg)
  statement_wrote fs (CompareExchange r w i e v) reg h = ap (any_writes reg) h ∙ or_right_false (eqb r reg)
  statement_wrote fs (If r e v body other) reg h =
      ap (any_writes reg) h.2 ∙ list_any-append (line_writes reg) h.0 (h.1 ++ EndLine ∷ []) ∙ ap (λ (b : Bool). b || any_writes reg (h.1 ++ EndLine ∷ [])) (statements_wrote h.0 body reg h.3)
      ∙ ap (λ (b : Bool). writes body reg || b) (list_any-append (line_writes reg) h.1 (EndLine ∷ []) ∙ or_right_false (any_writes reg h.1) ∙ else_wrote h.1 other reg (else_lines h.1 other h.4))

  pub statements_wrote : (fs : List Form) (ss : Statements) (reg : ℕ) → AreStatements fs ss → any_writes reg fs ≡ writes ss reg
  statements_wrote fs End reg h = ap (any_writes reg) h
  statements_wrote fs (Then s ss) reg h =
      ap (any_writes reg) h.2 ∙ list_any-append (line_writes reg) h.0 h.1 ∙ ap (λ (b : Bool). b || any_writes reg h.1) (statement_wrote h.0 s reg h.3) ∙ ap (λ (b : Bool). statement_writes s reg || b) (statements_wrote h.1 ss reg h.4)

  pub else_wrote : (fs : List Form) (ss : Statements) (reg : ℕ) → AreElse fs ss → any_writes reg fs ≡ writes ss reg
  else_wrote fs End reg (inl h) = ap (any_writes reg) h
  else_wrote fs End reg (inr h) = ap (any_writes reg) h
  else_wrote fs (Then s ss) reg h =
      ap (any_writes reg) h.2 ∙ list_any-append (line_writes reg) h.0 h.1 ∙ ap (λ (b : Bool). b || any_writes reg h.1) (statement_wrote h.0 s reg h.3) ∙ ap (λ (b : Bool). statement_writes s reg || b) (statements_wrote h.1 ss reg h.4)

-- ---- one statement more

pub statements_added : (fs gs : List Form) (ss : Statements) (s : Statement) → AreStatements fs ss → IsStatement gs s → AreStatements (fs ++ gs) (followed_by ss s)
statements_added fs gs End s a b = (gs, [], ap (λ (l : List Form). l ++ gs) a ∙ sym (append-nil gs), b, refl)
statements_added fs gs (Then t ts) s a b = (a.0, a.1 ++ gs, ap (λ (l : List Form). l ++ gs) a.2 ∙ append_assoc a.0 a.1 gs, a.3, statements_added a.1 gs ts s a.4 b)
