-- The forms with which the statements of a test begin, and the lines that have them.
use Rattle.std.proofs.Common.{◌≡◌, ℕ, zero, suc, ◌+◌, ◌-◌, ◌<◌, Bool, true, false, cond, List, [], ◌∷◌, ◌++◌, length, map, take, get_or, slice_get, IsTrue, ◌↔◌, Some, inl, inr, refl, sym, ap, subst, ◌∙◌, arith, append_assoc, true≢false}
use Rattle.std.specs.List.{AllZip, filter}
use Rattle.std.proofs.lemmas.List.{append-nil, length-append, length-map}
use Rattle.std.proofs.lemmas.List.Elements.{filter-append}
use Rattle.std.proofs.lemmas.Option.{get_or_from_slice_get, slice_get-get_or}
use Rattle.lit_syntax.specs.Syntax.{Statement, Statements, Load, Store, Exchange, CompareExchange, If, End, Then, Agent, Litmus, agent_of}
use Rattle.lit_read.specs.Internal.Marks.{IsSpelling}
use Rattle.lit_read.specs.Lines.{lines_of}
use Rattle.lit_syntax.specs.Tokens.{Token, CutsInto}
use Rattle.lit_syntax.specs.Forms.{Form, Blank, TestLine, BytesLine, AgentLine, StatementLine, IfLine, ElseLine, EndLine, CheckLine, HasForm, without_blanks}
use Rattle.lit_read.specs.Structure.{IsStatement, AreStatements, AreAgents}
use Rattle.lit_read.proofs.SpellLemmas.{AreElse, else_lines}
use Rattle.lit_read.specs.Spelling.{AreFormsOf, Spells}
use Rattle.lit_syntax.specs.StatementOrder.{statement_count, statement_begun, statements_begun, agents_count, agents_begun, forms_begun, statements_before}
use Rattle.lit_read.specs.StatementLines.{begins_statement, BeginsStatement, ListsStatementLines, BeginsOnLine, line_of}
use Rattle.lit_syntax.proofs.CountLemmas.{statements_counted}
use Rattle.lit_read.proofs.ReadLemmas.{form_once}
use Rattle.lit_read.proofs.ListedLines.{ListsAfter, after_start, without, first_left, none_left, line_listed, begun_here, not_begun_here}

-- ---- the forms of a test

abbrev begun : List Form → List Form
begun fs = filter begins_statement fs

two : (xs ys : List Form) (x y : List Form) → begun xs ≡ x → begun ys ≡ y → begun (xs ++ ys) ≡ x ++ y
two xs ys x y first rest = filter-append begins_statement xs ys ∙ ap (λ (l : List Form). l ++ begun ys) first ∙ ap (λ (l : List Form). x ++ l) rest

mutual
  statement_begins : (fs : List Form) (s : Statement) → IsStatement fs s → begun fs ≡ statement_begun s
  statement_begins fs (Load r w i a) h = ap begun h
  statement_begins fs (Store w i v a) h = ap begun h
  statement_begins fs (Exchange r w i v) h = ap begun h
  statement_begins fs (CompareExchange r w i e v) h = ap begun h
  statement_begins fs (If r e v body other) h =
      let end : begun (h.1 ++ EndLine ∷ []) ≡ statements_begun other =
      two h.1 (EndLine ∷ []) (statements_begun other) [] (else_begins h.1 other (else_lines h.1 other h.4)) refl ∙ append-nil (statements_begun other) in
      ap begun h.2 ∙ ap (λ (l : List Form). IfLine r e v ∷ l) (two h.0 (h.1 ++ EndLine ∷ []) (statements_begun body) (statements_begun other) (statements_begin h.0 body h.3) end)

  statements_begin : (fs : List Form) (ss : Statements) → AreStatements fs ss → begun fs ≡ statements_begun ss
  statements_begin fs End h = ap begun h
  statements_begin fs (Then s ss) h = ap begun h.2 ∙ two h.0 h.1 (statement_begun s) (statements_begun ss) (statement_begins h.0 s h.3) (statements_begin h.1 ss h.4)

  else_begins : (fs : List Form) (ss : Statements) → AreElse fs ss → begun fs ≡ statements_begun ss
  else_begins fs End (inl h) = ap begun h
  else_begins fs End (inr h) = ap begun h
  else_begins fs (Then s ss) h = ap begun h.2 ∙ two h.0 h.1 (statement_begun s) (statements_begun ss) (statement_begins h.0 s h.3) (statements_begin h.1 ss h.4)

agents_begin : (fs : List Form) (agents : List Agent) → AreAgents fs agents → begun fs ≡ agents_begun agents
agents_begin fs [] h = ap begun h
agents_begin fs (a ∷ others) h = ap begun h.2 ∙ two h.0 h.1 (statements_begun a.body) (agents_begun others) (statements_begin h.0 a.body h.3) (agents_begin h.1 others h.4)

test_begins : (fs : List Form) (t : Litmus) → AreFormsOf fs t → begun fs ≡ forms_begun t
test_begins fs t are =
    ap begun are.parts
    ∙ two are.agents (CheckLine are.check ∷ []) (agents_begun t.agents) [] (agents_begin are.agents t.agents are.bodies) refl ∙ append-nil (agents_begun t.agents)

blanks_begin : (fs : List Form) → begun (without_blanks fs) ≡ begun fs
blanks_begin [] = refl
blanks_begin (Blank ∷ fs) = blanks_begin fs
blanks_begin (TestLine name ∷ fs) = blanks_begin fs
blanks_begin (BytesLine bytes ∷ fs) = blanks_begin fs
blanks_begin (AgentLine name ∷ fs) = blanks_begin fs
blanks_begin (StatementLine s ∷ fs) = ap (λ (l : List Form). StatementLine s ∷ l) (blanks_begin fs)
blanks_begin (IfLine r e v ∷ fs) = ap (λ (l : List Form). IfLine r e v ∷ l) (blanks_begin fs)
blanks_begin (ElseLine ∷ fs) = blanks_begin fs
blanks_begin (EndLine ∷ fs) = blanks_begin fs
blanks_begin (CheckLine w ∷ fs) = blanks_begin fs

-- ---- a line by its tokens

pub begins_as : (line : List ℕ) (tokens : List Token) (form : Form) (b : Bool) → CutsInto line tokens → IsSpelling tokens form → b ≡ begins_statement form → IsTrue b ↔ BeginsStatement line
begins_as line tokens form b cut spelling is =
    let has : HasForm line form = record { tokens = tokens; cut = cut; spelling = spelling } in
    (λ yes. record { form = form; has = has; begins = sym is ∙ yes }, λ begun. is ∙ ap begins_statement (form_once line form begun.form has begun.has) ∙ begun.begins)

pub begins_nothing : (line : List ℕ) → ((form : Form) → HasForm line form → ⊥) → IsTrue false ↔ BeginsStatement line
begins_nothing line none = (λ no. absurd (true≢false (sym no)), λ begun. absurd (none begun.form begun.has))

-- ---- their lines

have_forms : (text : List ℕ) (n : ℕ) (done ls : List (List ℕ)) (fs : List Form) (lines : List ℕ) → lines_of text ≡ done ++ ls → length done ≡ n → AllZip HasForm ls fs
    → ListsAfter text n lines → AllZip HasForm (map (line_of text) lines) (begun fs)
have_forms text n done [] [] lines split count have l =
    let none : lines ≡ [] = none_left text n lines (omega (arith, ap length split, length-append done [], count)) l in
    rw none tt
have_forms text n done [] (f ∷ fs) lines split count have l = absurd have
have_forms text n done (line ∷ ls) [] lines split count have l = absurd have
have_forms text n done (line ∷ ls) (f ∷ fs) lines split count have l = by (begins_statement f) refl (λ more_lines rest. have_forms text (n + 1) (done ++ line ∷ []) ls fs more_lines later more have.1 rest)
  where
    listed : slice_get (lines_of text) ((n + 1) - 1) ≡ Some line
    listed = line_listed text n done line ls split count

    later : lines_of text ≡ (done ++ line ∷ []) ++ ls
    later = split ∙ sym (append_assoc done (line ∷ []) ls)

    more : length (done ++ line ∷ []) ≡ n + 1
    more = omega (arith, length-append done (line ∷ []), count)

    begun_not : begins_statement f ≡ false → BeginsStatement line → ⊥
    begun_not e b = true≢false (sym b.begins ∙ ap begins_statement (form_once line b.form f b.has have.0) ∙ e)

    by : (x : Bool) → begins_statement f ≡ x → ((rest : List ℕ) → ListsAfter text (n + 1) rest → AllZip HasForm (map (line_of text) rest) (begun fs))
        → AllZip HasForm (map (line_of text) lines) (cond x (f ∷ begun fs) (begun fs))
    by false e others = others lines (without text n lines (not_begun_here text n line listed (begun_not e)) l)
    by true e others =
        let here = begun_here text n line listed (record { form = f; has = have.0; begins = e }) in
        let first = first_left text n lines here l in
        let line_is : line_of text (n + 1) ≡ line = get_or_from_slice_get (lines_of text) ((n + 1) - 1) line [] listed in
        subst (λ (xs : List ℕ). AllZip HasForm (map (line_of text) xs) (f ∷ begun fs)) (sym first.1)
        (subst (λ (x : List ℕ). HasForm x f) (sym line_is) have.0, others first.0 first.2)

pub lines_have_forms : (text : List ℕ) (t : Litmus) (lines : List ℕ) → Spells text t → ListsStatementLines text lines → AllZip HasForm (map (line_of text) lines) (forms_begun t)
lines_have_forms text t lines spells l =
    subst (λ (fs : List Form). AllZip HasForm (map (line_of text) lines) fs) (sym (blanks_begin spells.forms) ∙ test_begins (without_blanks spells.forms) t spells.are)
    (have_forms text 0 [] (lines_of text) spells.forms lines refl refl spells.lines (after_start text lines l))

-- ---- how many there are

agents_counted : (agents : List Agent) → length (agents_begun agents) ≡ agents_count agents
agents_counted [] = refl
agents_counted (a ∷ others) = omega (arith, length-append (statements_begun a.body) (agents_begun others), statements_counted a.body, agents_counted others)

same_length : (ls : List (List ℕ)) (fs : List Form) → AllZip HasForm ls fs → length ls ≡ length fs
same_length [] [] h = refl
same_length [] (f ∷ fs) h = absurd h
same_length (l ∷ ls) [] h = absurd h
same_length (l ∷ ls) (f ∷ fs) h = let rest = same_length ls fs h.1 in omega (arith, rest)

pub lines_counted : (text : List ℕ) (t : Litmus) (lines : List ℕ) → Spells text t → ListsStatementLines text lines → length lines ≡ agents_count t.agents
lines_counted text t lines spells l =
    sym (length-map lines (line_of text)) ∙ same_length (map (line_of text) lines) (forms_begun t) (lines_have_forms text t lines spells l) ∙ agents_counted t.agents

-- ---- agent by agent

-- a line with this form has this place in the list
record IsListed (text lines : List ℕ) (place : ℕ) (form : Form) : Type 0 where
  pub n : ℕ
  pub listed : slice_get lines place ≡ Some n
  pub has : HasForm (line_of text n) form

listed_at : (text lines : List ℕ) (fs : List Form) (place : ℕ) (form : Form) → AllZip HasForm (map (line_of text) lines) fs → slice_get fs place ≡ Some form → IsListed text lines place form
listed_at text [] [] place form have e = absurd cc
listed_at text [] (f ∷ fs) place form have e = absurd have
listed_at text (n ∷ lines) [] place form have e = absurd have
listed_at text (n ∷ lines) (f ∷ fs) zero form have e = let same : f ≡ form = cc in record { n = n; listed = refl; has = subst (λ (x : Form). HasForm (line_of text n) x) same have.0 }
listed_at text (n ∷ lines) (f ∷ fs) (suc place) form have e = let h = listed_at text lines fs place form have.1 e in record { n = h.n; listed = h.listed; has = h.has }

behind : (xs ys : List Form) (n k : ℕ) → n ≡ length xs + k → slice_get (xs ++ ys) n ≡ slice_get ys k
behind [] ys n k e = ap (λ (m : ℕ). slice_get ys m) (let same : n ≡ k = omega (arith, e) in same)
behind (x ∷ xs) ys zero k e = absurd (omega (arith, e))
behind (x ∷ xs) ys (suc n) k e = behind xs ys n k (omega (arith, e))

before : (xs ys : List Form) (k : ℕ) (f : Form) → slice_get xs k ≡ Some f → slice_get (xs ++ ys) k ≡ Some f
before [] ys k f e = absurd cc
before (x ∷ xs) ys zero f e = e
before (x ∷ xs) ys (suc k) f e = before xs ys k f e

abbrev nobody : Agent
nobody = record { name = []; body = End }

of_agent : (agents : List Agent) (agent k : ℕ) (f : Form) → agent < length agents → slice_get (statements_begun (get_or agents agent nobody).body) k ≡ Some f
    → slice_get (agents_begun agents) (agents_count (take agent agents) + k) ≡ Some f
of_agent [] agent k f known e = absurd (omega (arith, known))
of_agent (a ∷ others) zero k f known e =
    ap (λ m. slice_get (agents_begun (a ∷ others)) m) (let same : 0 + k ≡ k = omega arith in same) ∙ before (statements_begun a.body) (agents_begun others) k f e
of_agent (a ∷ others) (suc agent) k f known e =
    behind (statements_begun a.body) (agents_begun others) ((statement_count a.body + agents_count (take agent others)) + k) (agents_count (take agent others) + k) (omega (arith, statements_counted a.body))
    ∙ of_agent others agent k f (omega (arith, known)) e

pub statement_on_line : (text : List ℕ) (t : Litmus) (lines : List ℕ) (agent k : ℕ) → Spells text t → ListsStatementLines text lines → agent < length t.agents → k < statement_count (agent_of t agent).body
    → (n : ℕ) × BeginsOnLine text t lines agent k n
statement_on_line text t lines agent k spells l known inside =
    let body : Statements = (agent_of t agent).body in
    let form : Form = get_or (statements_begun body) k Blank in
    let first : slice_get (statements_begun body) k ≡ Some form = slice_get-get_or (statements_begun body) k Blank (omega (arith, inside, statements_counted body)) in
    let at = listed_at text lines (forms_begun t) (statements_before t agent + k) form (lines_have_forms text t lines spells l) (of_agent t.agents agent k form known first) in
    (at.n, record { listed = at.listed; form = form; first = first; has = at.has })
