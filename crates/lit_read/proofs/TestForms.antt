-- Forms are those of one test, and what forms of one test have in common.
use Rattle.std.proofs.Common.{◌≡◌, ℕ, Bool, true, false, cond, ◌&&◌, List, [], ◌∷◌, ◌++◌, Option, None, inl, inr, refl, ap, sym, ◌∙◌, append_assoc}
use Rattle.std.specs.Prelude.{fold}
use Rattle.std.proofs.lemmas.List.Sums.{fold-append}
use Rattle.lit_syntax.specs.Syntax.{Statement, Statements, Load, Store, Exchange, CompareExchange, If, End, Then, Agent, Condition, Litmus}
use Rattle.lit_syntax.specs.Written.{Written}
use Rattle.lit_syntax.specs.Forms.{Form, Blank, TestLine, BytesLine, AgentLine, StatementLine, IfLine, ElseLine, EndLine, CheckLine}
use Rattle.lit_read.specs.Structure.{is_body_line, IsStatement, AreStatements, AreAgents}
use Rattle.lit_read.specs.Spelling.{written_value, AreFormsOf}
use Rattle.lit_read.specs.Canonical.{statement_forms, statements_forms, else_forms, agents_forms, starts_with_end, without_empty_elses}
use Rattle.lit_read.specs.Internal.State.{OpenIf, followed_by, else_open_if, ended_if}
use Rattle.lit_syntax.proofs.ListLemmas.{tail_is}
use Rattle.lit_read.proofs.SpellLemmas.{AreElse, else_lines, are_body_lines, statements_body}

-- ---- the statements that lines make

abbrev Grown : Type 0
Grown = List OpenIf × Statements

abbrev else_on : List OpenIf → Statements → Grown
else_on [] body = ([], body)
else_on (l ∷ ifs) body = (else_open_if l body ∷ ifs, End)

abbrev end_on : List OpenIf → Statements → Grown
end_on [] body = ([], body)
end_on (l ∷ ifs) body = (ifs, followed_by l.before (ended_if l body l.then_part))

abbrev grow : Grown → Form → Grown
grow g (StatementLine s) = (g.0, followed_by g.1 s)
grow g (IfLine reg equal value) = (record { reg = reg; equal = equal; value = value; before = g.1; then_part = None } ∷ g.0, End)
grow g ElseLine = else_on g.0 g.1
grow g EndLine = end_on g.0 g.1
grow g _ = g

abbrev pub behind : Statements → Statements → Statements
behind End ss = ss
behind (Then t ts) ss = Then t (behind ts ss)

pub behind_end : (ss : Statements) → behind ss End ≡ ss
behind_end End = refl
behind_end (Then s ss) = ap (λ (x : Statements). Then s x) (behind_end ss)

pub behind_one : (body : Statements) (s : Statement) (ss : Statements) → behind (followed_by body s) ss ≡ behind body (Then s ss)
behind_one End s ss = refl
behind_one (Then t ts) s ss = ap (λ (x : Statements). Then t x) (behind_one ts s ss)

abbrev pub new_open_if : ℕ → Bool → ℕ → Statements → OpenIf
new_open_if reg equal value before = record { reg = reg; equal = equal; value = value; before = before; then_part = None }

mutual
  statement_grows : (fs : List Form) (s : Statement) (ifs : List OpenIf) (body : Statements) → IsStatement fs s → fold grow (ifs, body) fs ≡ (ifs, followed_by body s)
  statement_grows fs (Load r w i a) ifs body h = ap (fold grow (ifs, body)) h
  statement_grows fs (Store w i v a) ifs body h = ap (fold grow (ifs, body)) h
  statement_grows fs (Exchange r w i v) ifs body h = ap (fold grow (ifs, body)) h
  statement_grows fs (CompareExchange r w i e v) ifs body h = ap (fold grow (ifs, body)) h
  statement_grows fs (If r e v part other) ifs body h =
      ap (fold grow (ifs, body)) h.2 ∙ fold-append grow (new_open_if r e v body ∷ ifs, End) h.0 (h.1 ++ EndLine ∷ [])
      ∙ ap (λ (g : Grown). fold grow g (h.1 ++ EndLine ∷ [])) (statements_grow h.0 part (new_open_if r e v body ∷ ifs) End h.3)
      ∙ fold-append grow (new_open_if r e v body ∷ ifs, part) h.1 (EndLine ∷ []) ∙ else_grows h.1 other (new_open_if r e v body) ifs part refl (else_lines h.1 other h.4)

  statements_grow : (fs : List Form) (ss : Statements) (ifs : List OpenIf) (body : Statements) → AreStatements fs ss → fold grow (ifs, body) fs ≡ (ifs, behind body ss)
  statements_grow fs End ifs body h = ap (fold grow (ifs, body)) h ∙ ap (λ (x : Statements). (ifs, x)) (sym (behind_end body))
  statements_grow fs (Then s ss) ifs body h =
      ap (fold grow (ifs, body)) h.2 ∙ fold-append grow (ifs, body) h.0 h.1 ∙ ap (λ (g : Grown). fold grow g h.1) (statement_grows h.0 s ifs body h.3) ∙ statements_grow h.1 ss ifs (followed_by body s) h.4
      ∙ ap (λ (x : Statements). (ifs, x)) (behind_one body s ss)

  else_grows : (fs : List Form) (other : Statements) (l : OpenIf) (ifs : List OpenIf) (part : Statements) → l.then_part ≡ None → AreElse fs other
      → fold grow (fold grow (l ∷ ifs, part) fs) (EndLine ∷ []) ≡ (ifs, followed_by l.before (If l.reg l.equal l.value part other))
  else_grows fs End l ifs part none (inl h) =
      ap (λ (x : List Form). fold grow (fold grow (l ∷ ifs, part) x) (EndLine ∷ [])) h ∙ ap (λ (p : Option Statements). (ifs, followed_by l.before (ended_if l part p))) none
  else_grows fs End l ifs part none (inr h) = ap (λ (x : List Form). fold grow (fold grow (l ∷ ifs, part) x) (EndLine ∷ [])) h
  else_grows fs (Then s ss) l ifs part none h =
      ap (λ (x : List Form). fold grow (fold grow (l ∷ ifs, part) x) (EndLine ∷ [])) h.2
      ∙ ap (λ (g : Grown). fold grow g (EndLine ∷ [])) (fold-append grow (else_open_if l part ∷ ifs, End) h.0 h.1 ∙ ap (λ (g : Grown). fold grow g h.1) (statement_grows h.0 s (else_open_if l part ∷ ifs) End h.3) ∙ statements_grow h.1 ss (else_open_if l part ∷ ifs) (Then s End) h.4)

-- ---- the test that lines make

abbrev own_part : List Form → List Form
own_part [] = []
own_part (f ∷ fs) = cond (is_body_line f) (f ∷ own_part fs) []

abbrev starts_body : List Form → Bool
starts_body [] = false
starts_body (f ∷ fs) = is_body_line f

own_is : (fs rest : List Form) → are_body_lines fs ≡ true → starts_body rest ≡ false → own_part (fs ++ rest) ≡ fs
own_is [] [] h e = refl
own_is [] (r ∷ rest) h e = rw e refl
own_is (f ∷ fs) rest h e = by (is_body_line f) refl h (λ g. own_is fs rest g e)
  where
    by : (b : Bool) → is_body_line f ≡ b → (b && are_body_lines fs) ≡ true → (are_body_lines fs ≡ true → own_part (fs ++ rest) ≡ fs) → cond (is_body_line f) (f ∷ own_part (fs ++ rest)) [] ≡ f ∷ fs
    by true is g more = rw is (ap (λ (l : List Form). f ∷ l) (more g))
    by false is g more = absurd cc

abbrev agents_back : List Form → List Agent
agents_back [] = []
agents_back (AgentLine name ∷ fs) = record { name = name; body = (fold grow ([], End) (own_part fs)).1 } ∷ agents_back fs
agents_back (f ∷ fs) = agents_back fs

agents_skip : (fs rest : List Form) → are_body_lines fs ≡ true → agents_back (fs ++ rest) ≡ agents_back rest
agents_skip [] rest h = refl
agents_skip (StatementLine s ∷ fs) rest h = agents_skip fs rest h
agents_skip (IfLine r q v ∷ fs) rest h = agents_skip fs rest h
agents_skip (ElseLine ∷ fs) rest h = agents_skip fs rest h
agents_skip (EndLine ∷ fs) rest h = agents_skip fs rest h
agents_skip (Blank ∷ fs) rest h = absurd cc
agents_skip (TestLine n ∷ fs) rest h = absurd cc
agents_skip (BytesLine b ∷ fs) rest h = absurd cc
agents_skip (AgentLine n ∷ fs) rest h = absurd cc
agents_skip (CheckLine w ∷ fs) rest h = absurd cc

starts_next : (fs rest : List Form) (agents : List Agent) → AreAgents fs agents → starts_body rest ≡ false → starts_body (fs ++ rest) ≡ false
starts_next fs rest [] h e = ap (λ (l : List Form). starts_body (l ++ rest)) h ∙ e
starts_next fs rest (a ∷ others) h e = ap (λ (l : List Form). starts_body (l ++ rest)) h.2

agents_are : (fs rest : List Form) (agents : List Agent) → AreAgents fs agents → starts_body rest ≡ false → agents_back rest ≡ [] → agents_back (fs ++ rest) ≡ agents
agents_are fs rest [] h e none = ap (λ (l : List Form). agents_back (l ++ rest)) h ∙ none
agents_are fs rest (a ∷ others) h e none =
    let body = statements_body h.0 a.body h.3 in
    ap (λ (l : List Form). agents_back (l ++ rest)) h.2 ∙ ap (λ (l : List Form). agents_back (AgentLine a.name ∷ l)) (append_assoc h.0 h.1 rest)
    ∙ ap (λ (b : Statements). record { name = a.name; body = b } ∷ agents_back (h.0 ++ (h.1 ++ rest)))
    (ap (λ (l : List Form). (fold grow ([], End) l).1) (own_is h.0 (h.1 ++ rest) body (starts_next h.1 rest others h.4 e)) ∙ ap (λ (g : Grown). g.1) (statements_grow h.0 a.body [] End h.3))
    ∙ ap (λ (l : List Agent). a ∷ l) (agents_skip h.0 (h.1 ++ rest) body ∙ agents_are h.1 rest others h.4 e none)

abbrev check_back : Written → List Form → Written
check_back w [] = w
check_back w (CheckLine v ∷ fs) = v
check_back w (f ∷ fs) = check_back w fs

check_skip : (w : Written) (fs rest : List Form) → are_body_lines fs ≡ true → check_back w (fs ++ rest) ≡ check_back w rest
check_skip w [] rest h = refl
check_skip w (StatementLine s ∷ fs) rest h = check_skip w fs rest h
check_skip w (IfLine r q v ∷ fs) rest h = check_skip w fs rest h
check_skip w (ElseLine ∷ fs) rest h = check_skip w fs rest h
check_skip w (EndLine ∷ fs) rest h = check_skip w fs rest h
check_skip w (Blank ∷ fs) rest h = absurd cc
check_skip w (TestLine n ∷ fs) rest h = absurd cc
check_skip w (BytesLine b ∷ fs) rest h = absurd cc
check_skip w (AgentLine n ∷ fs) rest h = absurd cc
check_skip w (CheckLine v ∷ fs) rest h = absurd cc

check_is : (w v : Written) (fs : List Form) (agents : List Agent) → AreAgents fs agents → check_back w (fs ++ CheckLine v ∷ []) ≡ v
check_is w v fs [] h = ap (λ (l : List Form). check_back w (l ++ CheckLine v ∷ [])) h
check_is w v fs (a ∷ others) h =
    ap (λ (l : List Form). check_back w (l ++ CheckLine v ∷ [])) h.2 ∙ ap (check_back w) (append_assoc h.0 h.1 (CheckLine v ∷ [])) ∙ check_skip w h.0 (h.1 ++ CheckLine v ∷ []) (statements_body h.0 a.body h.3) ∙ check_is w v h.1 others h.4

test_name : (a b : List ℕ) (xs ys : List Form) → TestLine a ∷ xs ≡ TestLine b ∷ ys → a ≡ b
test_name a b xs ys e = cc

block_size : (a b : ℕ) (xs ys : List Form) → BytesLine a ∷ xs ≡ BytesLine b ∷ ys → a ≡ b
block_size a b xs ys e = cc

abbrev litmus : List ℕ → ℕ → List Agent → Condition → Litmus
litmus name bytes agents check = record { name = name; bytes = bytes; agents = agents; check = check }

-- no forms are those of two tests
pub one_test_of : (fs : List Form) (t u : Litmus) → AreFormsOf fs t → AreFormsOf fs u → t ≡ u
one_test_of fs t u a b =
    let e : TestLine t.name ∷ BytesLine t.bytes ∷ (a.agents ++ CheckLine a.check ∷ []) ≡ TestLine u.name ∷ BytesLine u.bytes ∷ (b.agents ++ CheckLine b.check ∷ []) = sym a.parts ∙ b.parts in
    let name : t.name ≡ u.name = test_name _ _ _ _ e in
    let rest = tail_is _ _ _ _ e in
    let bytes : t.bytes ≡ u.bytes = block_size _ _ _ _ rest in
    let last : a.agents ++ CheckLine a.check ∷ [] ≡ b.agents ++ CheckLine b.check ∷ [] = tail_is _ _ _ _ rest in
    let agents : t.agents ≡ u.agents = sym (agents_are a.agents (CheckLine a.check ∷ []) t.agents a.bodies refl refl) ∙ ap agents_back last ∙ agents_are b.agents (CheckLine b.check ∷ []) u.agents b.bodies refl refl in
    let written : a.check ≡ b.check = sym (check_is a.check a.check a.agents t.agents a.bodies) ∙ ap (check_back a.check) last ∙ check_is a.check b.check b.agents u.agents b.bodies in
    let check : t.check ≡ u.check = a.asks ∙ ap (λ (l : List Agent). written_value l a.check) agents ∙ ap (written_value u.agents) written ∙ sym b.asks in
    ap (λ (n : List ℕ). litmus n t.bytes t.agents t.check) name ∙ ap (λ (n : ℕ). litmus u.name n t.agents t.check) bytes ∙ ap (λ (l : List Agent). litmus u.name u.bytes l t.check) agents ∙ ap (litmus u.name u.bytes u.agents) check

-- ---- forms of one test

no_end_first : (fs rest : List Form) (s : Statement) → IsStatement fs s → starts_with_end (fs ++ rest) ≡ false
no_end_first fs rest (Load r w i a) h = ap (λ (l : List Form). starts_with_end (l ++ rest)) h
no_end_first fs rest (Store w i v a) h = ap (λ (l : List Form). starts_with_end (l ++ rest)) h
no_end_first fs rest (Exchange r w i v) h = ap (λ (l : List Form). starts_with_end (l ++ rest)) h
no_end_first fs rest (CompareExchange r w i e v) h = ap (λ (l : List Form). starts_with_end (l ++ rest)) h
no_end_first fs rest (If r e v part other) h = ap (λ (l : List Form). starts_with_end (l ++ rest)) h.2

abbrev plain : List Form → List Form
plain fs = without_empty_elses fs

mutual
  statement_plain : (fs rest : List Form) (s : Statement) → IsStatement fs s → plain (fs ++ rest) ≡ statement_forms s ++ plain rest
  statement_plain fs rest (Load r w i a) h = ap (λ (l : List Form). plain (l ++ rest)) h
  statement_plain fs rest (Store w i v a) h = ap (λ (l : List Form). plain (l ++ rest)) h
  statement_plain fs rest (Exchange r w i v) h = ap (λ (l : List Form). plain (l ++ rest)) h
  statement_plain fs rest (CompareExchange r w i e v) h = ap (λ (l : List Form). plain (l ++ rest)) h
  statement_plain fs rest (If r e v part other) h =
      ap (λ (l : List Form). plain (l ++ rest)) h.2
      ∙ ap (λ (l : List Form). IfLine r e v ∷ plain l) (append_assoc h.0 (h.1 ++ EndLine ∷ []) rest ∙ ap (λ (l : List Form). h.0 ++ l) (append_assoc h.1 (EndLine ∷ []) rest))
      ∙ ap (λ (l : List Form). IfLine r e v ∷ l)
      (statements_plain h.0 (h.1 ++ EndLine ∷ rest) part h.3 ∙ ap (λ (l : List Form). statements_forms part ++ l) (else_plain h.1 rest other (else_lines h.1 other h.4))
      ∙ sym (append_assoc (statements_forms part) (else_forms other ++ EndLine ∷ []) (plain rest) ∙ ap (λ (l : List Form). statements_forms part ++ l) (append_assoc (else_forms other) (EndLine ∷ []) (plain rest))))

  pub statements_plain : (fs rest : List Form) (ss : Statements) → AreStatements fs ss → plain (fs ++ rest) ≡ statements_forms ss ++ plain rest
  statements_plain fs rest End h = ap (λ (l : List Form). plain (l ++ rest)) h
  statements_plain fs rest (Then s ss) h =
      ap (λ (l : List Form). plain (l ++ rest)) h.2 ∙ ap plain (append_assoc h.0 h.1 rest) ∙ statement_plain h.0 (h.1 ++ rest) s h.3 ∙ ap (λ (l : List Form). statement_forms s ++ l) (statements_plain h.1 rest ss h.4)
      ∙ sym (append_assoc (statement_forms s) (statements_forms ss) (plain rest))

  else_plain : (fs rest : List Form) (other : Statements) → AreElse fs other → plain (fs ++ EndLine ∷ rest) ≡ else_forms other ++ EndLine ∷ plain rest
  else_plain fs rest End (inl h) = ap (λ (l : List Form). plain (l ++ EndLine ∷ rest)) h
  else_plain fs rest End (inr h) = ap (λ (l : List Form). plain (l ++ EndLine ∷ rest)) h
  else_plain fs rest (Then s ss) h =
      ap (λ (l : List Form). plain (l ++ EndLine ∷ rest)) h.2
      ∙ ap (λ (l : List Form). plain (ElseLine ∷ l)) (append_assoc h.0 h.1 (EndLine ∷ rest))
      ∙ ap (λ (b : Bool). cond b (plain (h.0 ++ (h.1 ++ EndLine ∷ rest))) (ElseLine ∷ plain (h.0 ++ (h.1 ++ EndLine ∷ rest)))) (no_end_first h.0 (h.1 ++ EndLine ∷ rest) s h.3)
      ∙ ap (λ (l : List Form). ElseLine ∷ l) (statement_plain h.0 (h.1 ++ EndLine ∷ rest) s h.3 ∙ ap (λ (l : List Form). statement_forms s ++ l) (statements_plain h.1 (EndLine ∷ rest) ss h.4) ∙ sym (append_assoc (statement_forms s) (statements_forms ss) (EndLine ∷ plain rest)))

pub agents_plain : (fs : List Form) (agents : List Agent) → AreAgents fs agents → plain fs ≡ agents_forms agents
agents_plain fs [] h = ap plain h
agents_plain fs (a ∷ others) h = ap plain h.2 ∙ ap (λ (l : List Form). AgentLine a.name ∷ l) (statements_plain h.0 h.1 a.body h.3 ∙ ap (λ (l : List Form). statements_forms a.body ++ l) (agents_plain h.1 others h.4))

pub same_but_elses : (fs gs : List Form) (t : Litmus) → (a : AreFormsOf fs t) → (b : AreFormsOf gs t) → plain a.agents ≡ plain b.agents
same_but_elses fs gs t a b = agents_plain a.agents t.agents a.bodies ∙ sym (agents_plain b.agents t.agents b.bodies)
