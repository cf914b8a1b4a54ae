-- Texts of forms, one after the other.
use Rattle.std.proofs.Common.{◌≡◌, ℕ, zero, suc, ◌+◌, ◌<◌, ◌≤◌, Bool, false, cond, eqb, List, [], ◌∷◌, ◌++◌, length, get_or, drop, Result, Ok, Err, refl, ap, sym, ◌∙◌, append_assoc, arith}
use Rattle.std.specs.Prelude.{codes, OnOk, is_ok}
use Rattle.std.specs.Global.{Vec}
use Rattle.std.proofs.lemmas.List.{append-nil, drop_all}
use Rattle.lit_syntax.specs.declared.syntax.Stmt.{Stmt}
use Rattle.lit_syntax.specs.declared.syntax.Stmt as stmt
use Rattle.lit_syntax.specs.Syntax.{Statement, End, Agent, Litmus}
use Rattle.lit_syntax.specs.Litmus.{statement_of, statements_of}
use Rattle.lit_syntax.specs.Forms.{Form, TestLine, BytesLine, AgentLine, IfLine, EndLine, CheckLine}
use Rattle.lit_read.specs.Canonical.{statement_forms, statements_forms, else_forms, agents_forms}
use Rattle.lit_syntax.specs.Parentheses.{written_of}
use Rattle.lit_read.specs.CanonicalText.{form_text, forms_text, canonical}
use Rattle.lit_syntax.proofs.TreeViews.{if_views}

pub forms_text-append : (fs gs : List Form) → forms_text (fs ++ gs) ≡ forms_text fs ++ forms_text gs
forms_text-append [] gs = refl
forms_text-append (f ∷ fs) gs = ap (λ (bs : List ℕ). form_text f ++ 10 ∷ bs) (forms_text-append fs gs) ∙ sym (append_assoc (form_text f) (10 ∷ forms_text fs) (forms_text gs))

-- ---- statements

pub first_left : (xs : List Stmt) (i : ℕ) (d : Stmt) → i < length xs → forms_text (statements_forms (statements_of (drop i xs))) ≡ forms_text (statement_forms (statement_of (get_or xs i d))) ++ forms_text (statements_forms (statements_of (drop (i + 1) xs)))
first_left [] i d lt = absurd (omega arith)
first_left (x ∷ xs) zero d lt = forms_text-append (statement_forms (statement_of x)) (statements_forms (statements_of xs))
first_left (x ∷ xs) (suc i) d lt = let one : suc i + 1 ≡ suc (i + 1) = omega arith in rw one (first_left xs i d (omega arith))

-- one statement more is written
pub statement_put : (xs : List Stmt) (i : ℕ) (x : Stmt) (old new whole : List ℕ) → i < length xs → x ≡ get_or xs i x → new ≡ old ++ forms_text (statement_forms (statement_of x))
    → old ++ forms_text (statements_forms (statements_of (drop i xs))) ≡ whole → new ++ forms_text (statements_forms (statements_of (drop (i + 1) xs))) ≡ whole
statement_put xs i x old new whole lt is put so_far =
    let rest = forms_text (statements_forms (statements_of (drop (i + 1) xs))) in
    ap (λ (bs : List ℕ). bs ++ rest) put ∙ append_assoc old (forms_text (statement_forms (statement_of x))) rest
    ∙ ap (λ (s : Stmt). old ++ (forms_text (statement_forms (statement_of s)) ++ rest)) is ∙ ap (λ (bs : List ℕ). old ++ bs) (sym (first_left xs i x lt)) ∙ so_far

pub else_shown : (xs : List Stmt) → eqb (length xs) 0 ≡ false → forms_text (else_forms (statements_of xs)) ≡ codes "} else {\n" ++ forms_text (statements_forms (statements_of xs))
else_shown [] some = absurd cc
else_shown (x ∷ xs) some = refl

-- an `if` line, both parts and an end line
pub if_shown : (reg : ℕ) (equal : Bool) (value : ℕ) (body other : Vec Stmt) → forms_text (statement_forms (statement_of (stmt.If reg equal value body other)))
    ≡ forms_text (IfLine reg equal value ∷ []) ++ (forms_text (statements_forms (statements_of body.items)) ++ (forms_text (else_forms (statements_of other.items)) ++ codes "}\n"))
if_shown reg equal value body other =
    ap (λ (s : Statement). forms_text (statement_forms s)) (if_views reg equal value body other) ∙ forms_text-append (IfLine reg equal value ∷ []) (statements_forms (statements_of body.items) ++ (else_forms (statements_of other.items) ++ EndLine ∷ []))
    ∙ ap (λ (bs : List ℕ). forms_text (IfLine reg equal value ∷ []) ++ bs)
    (forms_text-append (statements_forms (statements_of body.items)) (else_forms (statements_of other.items) ++ EndLine ∷ [])
    ∙ ap (λ (bs : List ℕ). forms_text (statements_forms (statements_of body.items)) ++ bs) (forms_text-append (else_forms (statements_of other.items)) (EndLine ∷ [])))

-- ---- what is pushed last

pub last_pushed : {A E : Type 0} (r : Result A E) (x a b z : List ℕ) → x ≡ cond (is_ok r) a b → a ≡ z → OnOk r (x ≡ z)
last_pushed (Ok u) x a b z e f = e ∙ f
last_pushed (Err u) x a b z e f = tt

pub four_written : (a b c d x y z w : List ℕ) → b ≡ a ++ x → c ≡ b ++ y → d ≡ c ++ z → d ++ w ≡ a ++ (x ++ (y ++ (z ++ w)))
four_written a b c d x y z w p q r =
    ap (λ (bs : List ℕ). bs ++ w) (r ∙ ap (λ (bs : List ℕ). bs ++ z) (q ∙ ap (λ (bs : List ℕ). bs ++ y) p)) ∙ append_assoc ((a ++ x) ++ y) z w ∙ append_assoc (a ++ x) y (z ++ w) ∙ append_assoc a x (y ++ (z ++ w))

pub three_written : (a b c x y z : List ℕ) → b ≡ a ++ x → c ≡ b ++ y → c ++ z ≡ a ++ (x ++ (y ++ z))
three_written a b c x y z p q = ap (λ (bs : List ℕ). bs ++ z) (q ∙ ap (λ (bs : List ℕ). bs ++ y) p) ∙ append_assoc (a ++ x) y z ∙ append_assoc a x (y ++ z)

-- ---- agents

-- an agent's line and the lines of its statements
abbrev agent_text : Agent → List ℕ
agent_text a = forms_text (AgentLine a.name ∷ []) ++ forms_text (statements_forms a.body)

agents_left : (agents : List Agent) (i : ℕ) → i < length agents → forms_text (agents_forms (drop i agents)) ≡ agent_text (get_or agents i (record { name = []; body = End })) ++ forms_text (agents_forms (drop (i + 1) agents))
agents_left [] i lt = absurd (omega arith)
agents_left (a ∷ others) zero lt =
    forms_text-append (AgentLine a.name ∷ []) (statements_forms a.body ++ agents_forms others) ∙ ap (λ (bs : List ℕ). forms_text (AgentLine a.name ∷ []) ++ bs) (forms_text-append (statements_forms a.body) (agents_forms others))
    ∙ sym (append_assoc (forms_text (AgentLine a.name ∷ [])) (forms_text (statements_forms a.body)) (forms_text (agents_forms others)))
agents_left (a ∷ others) (suc i) lt = let one : suc i + 1 ≡ suc (i + 1) = omega arith in rw one (agents_left others i (omega arith))

-- one agent more is written
pub agent_put : (agents : List Agent) (i : ℕ) (a : Agent) (old mid new whole : List ℕ) → i < length agents → get_or agents i (record { name = []; body = End }) ≡ a
    → mid ≡ old ++ forms_text (AgentLine a.name ∷ []) → new ≡ mid ++ forms_text (statements_forms a.body)
    → old ++ forms_text (agents_forms (drop i agents)) ≡ whole → new ++ forms_text (agents_forms (drop (i + 1) agents)) ≡ whole
agent_put agents i a old mid new whole lt is named put so_far =
    let rest = forms_text (agents_forms (drop (i + 1) agents)) in
    let both : new ≡ old ++ agent_text a = put ∙ ap (λ (bs : List ℕ). bs ++ forms_text (statements_forms a.body)) named ∙ append_assoc old (forms_text (AgentLine a.name ∷ [])) (forms_text (statements_forms a.body)) in
    ap (λ (bs : List ℕ). bs ++ rest) both ∙ append_assoc old (agent_text a) rest ∙ ap (λ (b : Agent). old ++ (agent_text b ++ rest)) (sym is) ∙ ap (λ (bs : List ℕ). old ++ bs) (sym (agents_left agents i lt)) ∙ so_far

-- all of them are
pub agents_put : (agents : List Agent) (i : ℕ) (out whole : List ℕ) → length agents ≤ i → out ++ forms_text (agents_forms (drop i agents)) ≡ whole → out ≡ whole
agents_put agents i out whole past so_far = sym (ap (λ (l : List Agent). out ++ forms_text (agents_forms l)) (drop_all i agents past) ∙ append-nil out) ∙ so_far

-- ---- a whole test

pub test_put : (t : Litmus) (head agents text : List ℕ) → head ≡ forms_text (TestLine t.name ∷ BytesLine t.bytes ∷ []) → agents ≡ head ++ forms_text (agents_forms t.agents)
    → text ≡ agents ++ forms_text (CheckLine (written_of t.agents t.check) ∷ []) → text ≡ canonical t
unfolding canonical
test_put t head agents text a b c =
    let line = forms_text (CheckLine (written_of t.agents t.check) ∷ []) in
    let front = forms_text (TestLine t.name ∷ BytesLine t.bytes ∷ []) in
    c ∙ ap (λ (bs : List ℕ). bs ++ line) (b ∙ ap (λ (bs : List ℕ). bs ++ forms_text (agents_forms t.agents)) a) ∙ append_assoc front (forms_text (agents_forms t.agents)) line
    ∙ sym (forms_text-append (TestLine t.name ∷ BytesLine t.bytes ∷ []) (agents_forms t.agents ++ CheckLine (written_of t.agents t.check) ∷ []) ∙ ap (λ (bs : List ℕ). front ++ bs) (forms_text-append (agents_forms t.agents) (CheckLine (written_of t.agents t.check) ∷ [])))
