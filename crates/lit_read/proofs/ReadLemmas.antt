-- A text line by line: what is read is spelled, and what is refused is its first fault.
use Rattle.std.proofs.Common.{◌≡◌, ◌≢◌, ℕ, ◌-◌, ◌<◌, ◌≤◌, true, false, IsTrue, List, [], ◌∷◌, ◌++◌, length, take, get_or, refl, sym, ap, subst, ◌∙◌, true≢false}
use Rattle.std.specs.Prelude.{codes}
use Rattle.std.specs.List.{AllZip, list_any}
use Rattle.lit_read.specs.Internal.Marks.{IsSpelling}
use Rattle.lit_read.specs.declared.fault.ReadKind.{ReadKind}
use Rattle.lit_read.specs.declared.fault.ReadKind.TheVariants.{TooLong, NotAscii, Syntax, Misplaced, BlockSize, TooManyAgents, DuplicateAgent, LiteralRange, OutOfBlock, UnknownName, TooDeep, MissingPart, OutOfMemory}
use Rattle.lit_syntax.specs.Tokens.{Token, Word, CutsInto, IsWord}
use Rattle.lit_syntax.specs.Forms.{Form, Blank, TestLine, BytesLine, AgentLine, StatementLine, IfLine, ElseLine, EndLine, CheckLine, spelled, HasForm, without_blanks}
use Rattle.lit_read.specs.Faults.{is_check_line, is_faulty, HasLineFault, HasFault}
use Rattle.lit_read.specs.Lines.{lines_of}
use Rattle.lit_syntax.specs.declared.limits.TheConstants.{TEXT_LIMIT}
use Rattle.lit_read.specs.Internal.LineSteps.{IsLine}
use Rattle.lit_read.proofs.Cuttings.{cut_once}
use Rattle.lit_read.proofs.StepHolds.{added}
use Rattle.lit_read.proofs.OneForm.{spelled_once}
use Rattle.lit_read.proofs.StepLemmas.{HasWords}

-- a line has at most one form
pub form_once : (line : List ℕ) (f g : Form) → HasForm line f → HasForm line g → f ≡ g
form_once line f g a b =
    let same : b.tokens ≡ a.tokens = cut_once b.tokens a.tokens line b.cut a.cut in
    spelled_once f g a.tokens a.spelling (subst (λ (ts : List Token). IsSpelling ts g) same b.spelling)

-- a line that is cut into tokens that spell nothing has no form
pub no_form : (line : List ℕ) (tokens : List Token) → CutsInto line tokens → ((f : Form) → IsSpelling tokens f → ⊥) → (f : Form) → HasForm line f → ⊥
no_form line tokens cut nothing f has = nothing f (subst (λ (ts : List Token). IsSpelling ts f) (cut_once has.tokens tokens line has.cut cut) has.spelling)

pub no_cut : (line : List ℕ) → ((tokens : List Token) → CutsInto line tokens → ⊥) → (f : Form) → HasForm line f → ⊥
no_cut line none f has = none has.tokens has.cut

-- the names that a line has are words
second_word : (line w name : List ℕ) → CutsInto line (Word w ∷ Word name ∷ []) → IsWord name
unfolding CutsInto
second_word line w name h = h.7.5.0

pub has_words : (line : List ℕ) (f : Form) → HasForm line f → HasWords f
unfolding spelled
has_words line (TestLine name) h = second_word line (codes "test") name (subst (CutsInto line) h.spelling.0 h.cut)
has_words line (AgentLine name) h = second_word line (codes "agent") name (subst (CutsInto line) h.spelling.0 h.cut)
has_words line Blank h = tt
has_words line (BytesLine b) h = tt
has_words line (StatementLine r) h = tt
has_words line (IfLine r q v) h = tt
has_words line ElseLine h = tt
has_words line EndLine h = tt
has_words line (CheckLine w) h = tt

-- ---- forms of lines

pub forms_once : (ls : List (List ℕ)) (fs gs : List Form) → AllZip HasForm ls fs → AllZip HasForm ls gs → fs ≡ gs
forms_once [] [] [] a b = refl
forms_once [] [] (g ∷ gs) a b = absurd b
forms_once [] (f ∷ fs) gs a b = absurd a
forms_once (l ∷ ls) [] gs a b = absurd a
forms_once (l ∷ ls) (f ∷ fs) [] a b = absurd b
forms_once (l ∷ ls) (f ∷ fs) (g ∷ gs) a b =
    let first : f ≡ g = form_once l f g a.0 b.0 in
    let others : fs ≡ gs = forms_once ls fs gs a.1 b.1 in
    cc

pub forms_added : (ls : List (List ℕ)) (fs : List Form) (l : List ℕ) (f : Form) → AllZip HasForm ls fs → HasForm l f → AllZip HasForm (ls ++ l ∷ []) (fs ++ f ∷ [])
forms_added [] [] l f a b = (b, tt)
forms_added [] (g ∷ gs) l f a b = absurd a
forms_added (k ∷ ls) [] l f a b = absurd a
forms_added (k ∷ ls) (g ∷ gs) l f a b = (a.0, forms_added ls gs l f a.1 b)

added_behind : (g : Form) (given : List Form) (f : Form) → g ∷ added given f ≡ added (g ∷ given) f
added_behind g given Blank = refl
added_behind g given (TestLine n) = refl
added_behind g given (BytesLine b) = refl
added_behind g given (AgentLine n) = refl
added_behind g given (StatementLine s) = refl
added_behind g given (IfLine r q v) = refl
added_behind g given ElseLine = refl
added_behind g given EndLine = refl
added_behind g given (CheckLine w) = refl

pub blanks_added : (fs : List Form) (f : Form) → without_blanks (fs ++ f ∷ []) ≡ added (without_blanks fs) f
blanks_added [] Blank = refl
blanks_added [] (TestLine n) = refl
blanks_added [] (BytesLine b) = refl
blanks_added [] (AgentLine n) = refl
blanks_added [] (StatementLine s) = refl
blanks_added [] (IfLine r q v) = refl
blanks_added [] ElseLine = refl
blanks_added [] EndLine = refl
blanks_added [] (CheckLine w) = refl
blanks_added (Blank ∷ fs) f = blanks_added fs f
blanks_added (TestLine n ∷ fs) f = ap (λ (l : List Form). TestLine n ∷ l) (blanks_added fs f) ∙ added_behind (TestLine n) (without_blanks fs) f
blanks_added (BytesLine b ∷ fs) f = ap (λ (l : List Form). BytesLine b ∷ l) (blanks_added fs f) ∙ added_behind (BytesLine b) (without_blanks fs) f
blanks_added (AgentLine n ∷ fs) f = ap (λ (l : List Form). AgentLine n ∷ l) (blanks_added fs f) ∙ added_behind (AgentLine n) (without_blanks fs) f
blanks_added (StatementLine s ∷ fs) f = ap (λ (l : List Form). StatementLine s ∷ l) (blanks_added fs f) ∙ added_behind (StatementLine s) (without_blanks fs) f
blanks_added (IfLine r q v ∷ fs) f = ap (λ (l : List Form). IfLine r q v ∷ l) (blanks_added fs f) ∙ added_behind (IfLine r q v) (without_blanks fs) f
blanks_added (ElseLine ∷ fs) f = ap (λ (l : List Form). ElseLine ∷ l) (blanks_added fs f) ∙ added_behind ElseLine (without_blanks fs) f
blanks_added (EndLine ∷ fs) f = ap (λ (l : List Form). EndLine ∷ l) (blanks_added fs f) ∙ added_behind EndLine (without_blanks fs) f
blanks_added (CheckLine w ∷ fs) f = ap (λ (l : List Form). CheckLine w ∷ l) (blanks_added fs f) ∙ added_behind (CheckLine w) (without_blanks fs) f

pub checks_left : (fs : List Form) → list_any is_check_line (without_blanks fs) ≡ list_any is_check_line fs
checks_left [] = refl
checks_left (Blank ∷ fs) = checks_left fs
checks_left (TestLine n ∷ fs) = checks_left fs
checks_left (BytesLine b ∷ fs) = checks_left fs
checks_left (AgentLine n ∷ fs) = checks_left fs
checks_left (StatementLine s ∷ fs) = checks_left fs
checks_left (IfLine r q v ∷ fs) = checks_left fs
checks_left (ElseLine ∷ fs) = checks_left fs
checks_left (EndLine ∷ fs) = checks_left fs
checks_left (CheckLine w ∷ fs) = refl

-- ---- the faults of a line

faulty_same : (k : ReadKind) (before : List Form) (line : List ℕ) (f : Form) → IsLine line f → (form : Form) × HasForm line form × IsTrue (is_faulty k (without_blanks before) form) → is_faulty k (without_blanks before) f ≡ true
faulty_same k before line f is h = subst (λ (g : Form). is_faulty k (without_blanks before) g ≡ true) (form_once line h.0 f h.1 is.has) h.2

-- one of the faults of a line whose bytes may stand in a text and that has this form
pub line_fault_is : (k : ReadKind) (before : List Form) (line : List ℕ) (f : Form) → IsLine line f → HasLineFault k before line → is_faulty k (without_blanks before) f ≡ true
unfolding HasLineFault is_faulty
line_fault_is NotAscii before line f is h = absurd (true≢false (sym is.allowed ∙ h))
line_fault_is Syntax before line f is h = absurd (h f is.has)
line_fault_is TooLong before line f is h = faulty_same TooLong before line f is h
line_fault_is Misplaced before line f is h = faulty_same Misplaced before line f is h
line_fault_is BlockSize before line f is h = faulty_same BlockSize before line f is h
line_fault_is TooManyAgents before line f is h = faulty_same TooManyAgents before line f is h
line_fault_is DuplicateAgent before line f is h = faulty_same DuplicateAgent before line f is h
line_fault_is LiteralRange before line f is h = faulty_same LiteralRange before line f is h
line_fault_is OutOfBlock before line f is h = faulty_same OutOfBlock before line f is h
line_fault_is UnknownName before line f is h = faulty_same UnknownName before line f is h
line_fault_is TooDeep before line f is h = faulty_same TooDeep before line f is h
line_fault_is MissingPart before line f is h = faulty_same MissingPart before line f is h
line_fault_is OutOfMemory before line f is h = faulty_same OutOfMemory before line f is h

pub made_fault : (k : ReadKind) (before : List Form) (line : List ℕ) (f : Form) → IsLine line f → is_faulty k (without_blanks before) f ≡ true → HasLineFault k before line
unfolding HasLineFault is_faulty
made_fault NotAscii before line f is h = absurd (true≢false (sym h))
made_fault Syntax before line f is h = absurd (true≢false (sym h))
made_fault TooLong before line f is h = (f, is.has, h)
made_fault Misplaced before line f is h = (f, is.has, h)
made_fault BlockSize before line f is h = (f, is.has, h)
made_fault TooManyAgents before line f is h = (f, is.has, h)
made_fault DuplicateAgent before line f is h = (f, is.has, h)
made_fault LiteralRange before line f is h = (f, is.has, h)
made_fault OutOfBlock before line f is h = (f, is.has, h)
made_fault UnknownName before line f is h = (f, is.has, h)
made_fault TooDeep before line f is h = (f, is.has, h)
made_fault MissingPart before line f is h = (f, is.has, h)
made_fault OutOfMemory before line f is h = (f, is.has, h)

-- ---- the faults of a text

-- the lines with lesser numbers have these forms
abbrev pub AreFormsBefore : List ℕ → ℕ → List Form → Type 0
AreFormsBefore text line before = (1 ≤ line) × (line ≤ length (lines_of text)) × AllZip HasForm (take (line - 1) (lines_of text)) before

-- a fault of one line, which its number is that of
pub record LineFault (text : List ℕ) (k : ReadKind) (n : ℕ) : Type 0 where
  pub before : List Form
  pub above : AreFormsBefore text n before
  pub fault : HasLineFault k before (get_or (lines_of text) (n - 1) [])

-- which of a text's faults it is
pub data Which (text : List ℕ) (k : ReadKind) (n : ℕ) : Type 0 where
  Long : TEXT_LIMIT < length text → n ≡ 1 → Which text k n
  Ended : k ≡ MissingPart → n ≡ length (lines_of text) → (forms : List Form) → AllZip HasForm (lines_of text) forms → list_any is_check_line forms ≡ false → Which text k n
  Line : k ≢ MissingPart → LineFault text k n → Which text k n

pub which : (text : List ℕ) (k : ReadKind) (n : ℕ) → HasFault text k n → Which text k n
unfolding HasFault
which text TooLong n h = Long h.0 h.1
which text MissingPart n h = Ended refl h.0 h.1.0 h.1.1 h.1.2
which text OutOfMemory n h = absurd h
which text NotAscii n h = Line (λ e. absurd cc) (record { before = h.0; above = (h.1, h.2, h.3); fault = h.4 })
which text Syntax n h = Line (λ e. absurd cc) (record { before = h.0; above = (h.1, h.2, h.3); fault = h.4 })
which text Misplaced n h = Line (λ e. absurd cc) (record { before = h.0; above = (h.1, h.2, h.3); fault = h.4 })
which text BlockSize n h = Line (λ e. absurd cc) (record { before = h.0; above = (h.1, h.2, h.3); fault = h.4 })
which text TooManyAgents n h = Line (λ e. absurd cc) (record { before = h.0; above = (h.1, h.2, h.3); fault = h.4 })
which text DuplicateAgent n h = Line (λ e. absurd cc) (record { before = h.0; above = (h.1, h.2, h.3); fault = h.4 })
which text LiteralRange n h = Line (λ e. absurd cc) (record { before = h.0; above = (h.1, h.2, h.3); fault = h.4 })
which text OutOfBlock n h = Line (λ e. absurd cc) (record { before = h.0; above = (h.1, h.2, h.3); fault = h.4 })
which text UnknownName n h = Line (λ e. absurd cc) (record { before = h.0; above = (h.1, h.2, h.3); fault = h.4 })
which text TooDeep n h = Line (λ e. absurd cc) (record { before = h.0; above = (h.1, h.2, h.3); fault = h.4 })

-- a fault that a line with a form can have
abbrev pub IsOfLine : ReadKind → Type 0
IsOfLine k = (k ≢ TooLong) × (k ≢ MissingPart) × (k ≢ OutOfMemory)

pub line_is_fault : (text : List ℕ) (k : ReadKind) (n : ℕ) → IsOfLine k → LineFault text k n → HasFault text k n
unfolding HasFault
line_is_fault text TooLong n of h = absurd (of.0 refl)
line_is_fault text MissingPart n of h = absurd (of.1 refl)
line_is_fault text OutOfMemory n of h = absurd (of.2 refl)
line_is_fault text NotAscii n of h = (h.before, h.above.0, h.above.1, h.above.2, h.fault)
line_is_fault text Syntax n of h = (h.before, h.above.0, h.above.1, h.above.2, h.fault)
line_is_fault text Misplaced n of h = (h.before, h.above.0, h.above.1, h.above.2, h.fault)
line_is_fault text BlockSize n of h = (h.before, h.above.0, h.above.1, h.above.2, h.fault)
line_is_fault text TooManyAgents n of h = (h.before, h.above.0, h.above.1, h.above.2, h.fault)
line_is_fault text DuplicateAgent n of h = (h.before, h.above.0, h.above.1, h.above.2, h.fault)
line_is_fault text LiteralRange n of h = (h.before, h.above.0, h.above.1, h.above.2, h.fault)
line_is_fault text OutOfBlock n of h = (h.before, h.above.0, h.above.1, h.above.2, h.fault)
line_is_fault text UnknownName n of h = (h.before, h.above.0, h.above.1, h.above.2, h.fault)
line_is_fault text TooDeep n of h = (h.before, h.above.0, h.above.1, h.above.2, h.fault)
