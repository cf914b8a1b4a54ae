-- The canonical text of a test, line by line, and any text with the forms of a test.
use Rattle.std.proofs.Common.{◌≡◌, ℕ, zero, suc, ◌+◌, ◌<◌, ◌≤◌, Bool, true, false, not, eqb, ◌&&◌, List, [], ◌∷◌, ◌++◌, length, get_or, map, take, drop, Option, Some, None, Ok, refl, ap, sym, subst, ◌∙◌, append_assoc, arith}
use Rattle.std.specs.List.{AllZip, list_all, prefix_len}
use Rattle.std.proofs.lemmas.Bool.Decides.{nat_tests}
use Rattle.std.proofs.lemmas.List.{take_at, drop_at, append-nil}
use Rattle.lit_syntax.specs.declared.limits.TheConstants.{TEXT_LIMIT, BLOCK_LIMIT, REGISTERS, COMPARED_LIMIT}
use Rattle.lit_syntax.specs.Syntax.{Statement, Statements, Load, Store, Exchange, CompareExchange, If, End, Then, IsStatementIn, AreStatementsIn, Agent, Litmus, IsLitmus}
use Rattle.lit_read.specs.Lines.{lines_of, lines_from, ended_lines}
use Rattle.lit_syntax.specs.Tokens.{IsWord}
use Rattle.lit_syntax.specs.Forms.{Form, Blank, TestLine, BytesLine, AgentLine, StatementLine, IfLine, ElseLine, EndLine, CheckLine, spelled, IsForm, HasForm, without_blanks}
use Rattle.lit_read.specs.Faults.{is_allowed}
use Rattle.lit_syntax.specs.Written.{is_shallow}
use Rattle.lit_read.specs.Spelling.{written_value, AreFormsOf, Spells}
use Rattle.lit_read.specs.Canonical.{statement_forms, statements_forms, else_forms, agents_forms, canonical_forms}
use Rattle.lit_syntax.specs.Parentheses.{written_of}
use Rattle.lit_read.specs.CanonicalText.{form_text, canonical}
use Rattle.lit_read.specs.Internal.State.{State, Empty, Whole, step}
use Rattle.lit_read.specs.Internal.LineSteps.{IsLine, LineStep}
use Rattle.lit_read.proofs.LineLemmas.{behind, lines_split, lines_pass}
use Rattle.lit_read.proofs.CutLemmas.{run_len}
use Rattle.lit_read.proofs.DraftForms.{Holds}
use Rattle.lit_read.proofs.StepHolds.{step_holds}
use Rattle.lit_read.proofs.ReadLemmas.{blanks_added, forms_once}
use Rattle.lit_read.proofs.TestForms.{one_test_of}
use Rattle.lit_read.proofs.Progress.{Progress, progress_begins, progress_goes_on, progress_spells}
use Rattle.lit_read.proofs.CleanLines.{IsClean, is_printable, all_weaker}
use Rattle.lit_read.proofs.CanonicalLines.{test_clean, agent_clean, bytes_clean, if_clean, else_clean, end_clean, statement_clean}
use Rattle.lit_read.proofs.CanonicalConditions.{check_clean}
use Rattle.lit_read.proofs.CanonicalForms.{written_back, canonical_are}
use Rattle.lit_read.proofs.CheckAsks.{check_writable, check_form}
use Rattle.lit_read.proofs.TestSteps.{Reaches, test_reached}

-- ---- each line

-- the form can stand in a line, and its line is clean
record IsShown (f : Form) : Type 0 where
  can_stand : IsForm f
  clean : IsClean (form_text f) (spelled f)

abbrev AreShown : List Form → Type 0
AreShown [] = Unit {0}
AreShown (f ∷ fs) = IsShown f × AreShown fs

shown_then : (fs gs : List Form) → AreShown fs → AreShown gs → AreShown (fs ++ gs)
shown_then [] gs a b = b
shown_then (f ∷ fs) gs a b = (a.0, shown_then fs gs a.1 b)

access_shown : (bytes : ℕ) (s : Statement) → bytes ≤ BLOCK_LIMIT → IsStatementIn bytes s → IsForm (StatementLine s) → IsShown (StatementLine s)
unfolding IsForm spelled
access_shown bytes s few is access = record { can_stand = access; clean = statement_clean bytes s few is access }

if_shown : (reg : ℕ) (equal : Bool) (value : ℕ) → reg < REGISTERS → value ≤ COMPARED_LIMIT → IsShown (IfLine reg equal value)
unfolding IsForm
if_shown reg equal value lt small = record { can_stand = lt; clean = if_clean reg equal value lt (omega arith) }

else_shown : IsShown ElseLine
unfolding IsForm
else_shown = record { can_stand = tt; clean = else_clean }

end_shown : IsShown EndLine
unfolding IsForm
end_shown = record { can_stand = tt; clean = end_clean }

mutual
  unfolding IsForm

  statement_shown : (bytes : ℕ) (s : Statement) → bytes ≤ BLOCK_LIMIT → IsStatementIn bytes s → AreShown (statement_forms s)
  statement_shown bytes (Load r w i a) few is = (access_shown bytes (Load r w i a) few is (is.0, is.2), tt)
  statement_shown bytes (Store w i v a) few is = (access_shown bytes (Store w i v a) few is is.2, tt)
  statement_shown bytes (Exchange r w i v) few is = (access_shown bytes (Exchange r w i v) few is (is.0, is.3), tt)
  statement_shown bytes (CompareExchange r w i e v) few is = (access_shown bytes (CompareExchange r w i e v) few is (is.0, is.4), tt)
  statement_shown bytes (If r e v part other) few is =
      (if_shown r e v is.0 is.1, shown_then (statements_forms part) (else_forms other ++ EndLine ∷ []) (statements_shown bytes part few is.2) (shown_then (else_forms other) (EndLine ∷ []) (part_shown bytes other few is.3) (end_shown, tt)))

  statements_shown : (bytes : ℕ) (ss : Statements) → bytes ≤ BLOCK_LIMIT → AreStatementsIn bytes ss → AreShown (statements_forms ss)
  statements_shown bytes End few are = tt
  statements_shown bytes (Then s ss) few are = shown_then (statement_forms s) (statements_forms ss) (statement_shown bytes s few are.0) (statements_shown bytes ss few are.1)

  part_shown : (bytes : ℕ) (ss : Statements) → bytes ≤ BLOCK_LIMIT → AreStatementsIn bytes ss → AreShown (else_forms ss)
  part_shown bytes End few are = tt
  part_shown bytes (Then s ss) few are = (else_shown, shown_then (statement_forms s) (statements_forms ss) (statement_shown bytes s few are.0) (statements_shown bytes ss few are.1))

agent_shown : (name : List ℕ) → IsWord name → IsShown (AgentLine name)
unfolding IsForm
agent_shown name is = record { can_stand = tt; clean = agent_clean name is }

agents_shown : (bytes : ℕ) (agents : List Agent) → bytes ≤ BLOCK_LIMIT → ((i : ℕ) → i < length agents → IsWord (get_or agents i (record { name = []; body = End })).name)
    → ((i : ℕ) → i < length agents → AreStatementsIn bytes (get_or agents i (record { name = []; body = End })).body) → AreShown (agents_forms agents)
agents_shown bytes [] few named are = tt
agents_shown bytes (a ∷ others) few named are = (
  agent_shown a.name (named 0 (omega arith)),
  shown_then (statements_forms a.body) (agents_forms others) (statements_shown bytes a.body few (are 0 (omega arith))) (agents_shown bytes others few (λ i lt. named (suc i) (omega arith)) (λ i lt. are (suc i) (omega arith))),
)

module _ (t : Litmus) (is : IsLitmus t) where
  head_shown : IsShown (TestLine t.name) × IsShown (BytesLine t.bytes)
  unfolding IsForm
  head_shown = (record { can_stand = tt; clean = test_clean t.name is.named }, record { can_stand = tt; clean = bytes_clean t.bytes (omega (arith, is.block)) })

  asks : t.check ≡ written_value t.agents (written_of t.agents t.check)
  asks = sym (written_back t is t.check is.check)

  test_shown : AreShown (canonical_forms t)
  test_shown = (
    head_shown.0,
    (
      head_shown.1,
      shown_then (agents_forms t.agents) (CheckLine (written_of t.agents t.check) ∷ []) (agents_shown t.bytes t.agents is.block is.names is.bodies)
          (record { can_stand = check_form t is (written_of t.agents t.check) asks; clean = check_clean (written_of t.agents t.check) (check_writable t is (written_of t.agents t.check) asks) }, tt),
    ),
  )

-- ---- all lines

byte_allowed : (b : ℕ) → is_printable b ≡ true → is_allowed b ≡ true
byte_allowed b h = grind (arith, nat_tests)

byte_no_end : (b : ℕ) → is_printable b ≡ true → not (eqb b 10) ≡ true
byte_no_end b h = grind (arith, nat_tests)

line_has : (f : Form) → IsShown f → HasForm (form_text f) f
line_has f shown = record { tokens = spelled f; cut = shown.clean.cut; spelling = (refl, shown.can_stand) }

line_is : (f : Form) → IsShown f → IsLine (form_text f) f
line_is f shown = record { allowed = all_weaker is_printable is_allowed byte_allowed (form_text f) shown.clean.printable; has = line_has f shown }

lines_have : (fs : List Form) → AreShown fs → AllZip HasForm (map form_text fs) fs
lines_have [] shown = tt
lines_have (f ∷ fs) shown = (line_has f shown.0, lines_have fs shown.1)

-- the lines of lines with their ends
ended_behind : (line : List ℕ) (rest : List ℕ) → behind (10 ∷ (line ++ 10 ∷ rest)) ≡ Some (line ++ 10 ∷ rest)
ended_behind [] rest = refl
ended_behind (b ∷ bs) rest = refl

first_line : (line rest : List ℕ) → list_all (λ b. not (eqb b 10)) line ≡ true → lines_of (line ++ 10 ∷ rest) ≡ line ∷ lines_from (behind (10 ∷ rest))
first_line line rest whole =
    let len : prefix_len (λ b. not (eqb b 10)) (line ++ 10 ∷ rest) ≡ length line = run_len (λ b. not (eqb b 10)) line (10 ∷ rest) whole refl in
    lines_split (line ++ 10 ∷ rest) ∙ rw (len, take_at line (10 ∷ rest) (length line) refl, drop_at line (10 ∷ rest) (length line) refl) refl

lines_back : (f : Form) (fs : List Form) → AreShown (f ∷ fs) → lines_of (ended_lines (map form_text (f ∷ fs))) ≡ map form_text (f ∷ fs)
lines_back f [] shown = first_line (form_text f) [] (all_weaker is_printable (λ b. not (eqb b 10)) byte_no_end (form_text f) shown.0.clean.printable)
lines_back f (g ∷ fs) shown =
    first_line (form_text f) (ended_lines (map form_text (g ∷ fs))) (all_weaker is_printable (λ b. not (eqb b 10)) byte_no_end (form_text f) shown.0.clean.printable)
    ∙ ap (λ (o : Option (List ℕ)). form_text f ∷ lines_from o) (ended_behind (form_text g) (ended_lines (map form_text fs))) ∙ ap (λ (ls : List (List ℕ)). form_text f ∷ ls) (lines_back g fs shown.1)

module _ (t : Litmus) (is : IsLitmus t) where
  canonical_lines : lines_of (canonical t) ≡ map form_text (canonical_forms t)
  unfolding canonical
  canonical_lines = lines_back (TestLine t.name) (BytesLine t.bytes ∷ (agents_forms t.agents ++ CheckLine (written_of t.agents t.check) ∷ [])) (test_shown t is)

  pub canonical_have : AllZip HasForm (lines_of (canonical t)) (canonical_forms t)
  canonical_have = subst (λ (ls : List (List ℕ)). AllZip HasForm ls (canonical_forms t)) (sym canonical_lines) (lines_have (canonical_forms t) (test_shown t is))

-- ---- the reader

-- each line has its form, and bytes that may stand in a text
abbrev AreLines : List (List ℕ) → List Form → Type 0
AreLines [] fs = fs ≡ []
AreLines (l ∷ ls) fs = (f : Form) × (gs : List Form) × (fs ≡ f ∷ gs) × IsLine l f × AreLines ls gs

shown_lines : (fs : List Form) → AreShown fs → AreLines (map form_text fs) fs
shown_lines [] shown = refl
shown_lines (f ∷ fs) shown = (f, fs, refl, line_is f shown.0, shown_lines fs shown.1)

allowed_lines : (ls : List (List ℕ)) (fs : List Form) → AllZip HasForm ls fs → list_all (λ l. list_all is_allowed l) ls ≡ true → AreLines ls fs
allowed_lines [] [] have allowed = refl
allowed_lines [] (f ∷ fs) have allowed = absurd have
allowed_lines (l ∷ ls) [] have allowed = absurd have
allowed_lines (l ∷ ls) (f ∷ fs) have allowed = by (list_all is_allowed l) refl allowed (allowed_lines ls fs have.1)
  where
    by : (x : Bool) → list_all is_allowed l ≡ x → (x && list_all (λ l. list_all is_allowed l) ls) ≡ true → (list_all (λ l. list_all is_allowed l) ls ≡ true → AreLines ls fs) → AreLines (l ∷ ls) (f ∷ fs)
    by true e g rest = (f, fs, refl, record { allowed = e; has = have.0 }, rest g)
    by false e g rest = absurd cc

-- Where some lines are read, and the others have these forms, which lead to the test, the text spells the test.
runs : (n : ℕ) (text : List ℕ) (fs : List Form) (number : ℕ) (s : State) (t : Litmus) (rest : Option (List ℕ)) → Progress text number s rest → length (lines_from rest) < n → AreLines (lines_from rest) fs → Reaches s fs (Whole t) → Spells text t
runs zero text fs number s t rest p few are reached = absurd (omega arith)
runs (suc n) text fs number s t None p few are reached = progress_spells text number t (subst (λ (x : State). Progress text number x None) (subst (λ (gs : List Form). Reaches s gs (Whole t)) are reached) p)
runs (suc n) text fs number s t (Some left) p few are reached =
    let len = prefix_len (λ b. not (eqb b 10)) left in
    let after = behind (drop len left) in
    let parts = subst (λ (ls : List (List ℕ)). AreLines ls fs) (lines_split left) are in
    let goes = subst (λ (gs : List Form). Reaches s gs (Whole t)) parts.2 reached in
    let stepped : LineStep s (take len left) (Ok goes.0) = record { form = parts.0; is = parts.3; steps = goes.1 } in
    runs n text parts.1 (number + 1) goes.0 t after (progress_goes_on text left (take len left) number s after p (lines_split left) goes.0 stepped) (omega (arith, few, ap length (lines_split left))) parts.4 goes.2

spells : (text : List ℕ) (fs : List Form) (t : Litmus) → length text ≤ TEXT_LIMIT → AreLines (lines_of text) fs → Reaches Empty fs (Whole t) → Spells text t
spells text fs t short are reached = runs (suc (length (lines_of text))) text fs 0 Empty t (Some text) (progress_begins text short) (omega arith) are reached

canonical_reached : (t : Litmus) → IsLitmus t → Reaches Empty (canonical_forms t) (Whole t)
canonical_reached t is = test_reached t (canonical_forms t) is (canonical_are t is) is.shallow

pub canonical_spells : (t : Litmus) → IsLitmus t → length (canonical t) ≤ TEXT_LIMIT → Spells (canonical t) t
canonical_spells t is short =
    spells (canonical t) (canonical_forms t) t short (subst (λ (ls : List (List ℕ)). AreLines ls (canonical_forms t)) (sym (canonical_lines t is)) (shown_lines (canonical_forms t) (test_shown t is))) (canonical_reached t is)

-- ---- any text with the forms of a test

blanks_reached : (fs : List Form) (s t : State) → Reaches s (without_blanks fs) t → Reaches s fs t
unfolding step
blanks_reached [] s t h = h
blanks_reached (Blank ∷ fs) s t h = (s, refl, blanks_reached fs s t h)
blanks_reached (TestLine n ∷ fs) s t h = (h.0, h.1, blanks_reached fs h.0 t h.2)
blanks_reached (BytesLine b ∷ fs) s t h = (h.0, h.1, blanks_reached fs h.0 t h.2)
blanks_reached (AgentLine n ∷ fs) s t h = (h.0, h.1, blanks_reached fs h.0 t h.2)
blanks_reached (StatementLine r ∷ fs) s t h = (h.0, h.1, blanks_reached fs h.0 t h.2)
blanks_reached (IfLine r q v ∷ fs) s t h = (h.0, h.1, blanks_reached fs h.0 t h.2)
blanks_reached (ElseLine ∷ fs) s t h = (h.0, h.1, blanks_reached fs h.0 t h.2)
blanks_reached (EndLine ∷ fs) s t h = (h.0, h.1, blanks_reached fs h.0 t h.2)
blanks_reached (CheckLine w ∷ fs) s t h = (h.0, h.1, blanks_reached fs h.0 t h.2)

pub forms_spell : (text : List ℕ) (forms : List Form) (t : Litmus) → IsLitmus t → length text ≤ TEXT_LIMIT → list_all is_allowed text ≡ true → AllZip HasForm (lines_of text) forms → (are : AreFormsOf (without_blanks forms) t) → is_shallow are.check ≡ true
    → Spells text t
forms_spell text forms t is short allowed have are shallow =
    spells text forms t short (allowed_lines (lines_of text) forms have (lines_pass is_allowed text allowed)) (blanks_reached forms Empty (Whole t) (test_reached t (without_blanks forms) is are shallow))

-- ---- its forms are those of the test

held : (before fs : List Form) (s t : State) → AreShown fs → Holds (without_blanks before) s → Reaches s fs t → Holds (without_blanks (before ++ fs)) t
held before [] s t shown holds reached = subst (λ (gs : List Form). Holds (without_blanks gs) t) (sym (append-nil before)) (subst (Holds (without_blanks before)) reached holds)
held before (f ∷ fs) s t shown holds reached =
    let next : Holds (without_blanks (before ++ f ∷ [])) reached.0 =
    subst (λ (gs : List Form). Holds gs reached.0) (sym (blanks_added before f)) (step_holds s reached.0 (without_blanks before) f shown.0.can_stand holds reached.1) in
    subst (λ (gs : List Form). Holds (without_blanks gs) t) (append_assoc before (f ∷ []) fs) (held (before ++ f ∷ []) fs reached.0 t shown.1 next reached.2)

pub its_forms : (t : Litmus) → IsLitmus t → AreFormsOf (without_blanks (canonical_forms t)) t
its_forms t is = held [] (canonical_forms t) Empty (Whole t) (test_shown t is) refl (canonical_reached t is)

pub only_its_forms : (t u : Litmus) (forms : List Form) → IsLitmus t → AllZip HasForm (lines_of (canonical t)) forms → AreFormsOf (without_blanks forms) u → u ≡ t
only_its_forms t u forms is have other =
    let same : forms ≡ canonical_forms t = forms_once (lines_of (canonical t)) forms (canonical_forms t) have (canonical_have t is) in
    one_test_of (without_blanks forms) u t other (subst (λ (fs : List Form). AreFormsOf (without_blanks fs) t) (sym same) (its_forms t is))
