-- Each text spells one test or has a first fault, and neither two.
use Rattle.std.proofs.Common.{◌≡◌, ◌≢◌, ℕ, zero, suc, ◌+◌, ◌<◌, ◌≤◌, Bool, true, false, cond, not, eqb, List, [], ◌∷◌, ◌++◌, length, take, drop, ◌⊎◌, inl, inr, refl, sym, ap, subst, ◌∙◌, Option, Some, None, Result, Ok, Err, arith}
use Rattle.std.specs.Prelude.{codes}
use Rattle.std.specs.List.{list_all, prefix_len}
use Rattle.std.proofs.lemmas.Bool.{cases_lt, eqb-true}
use Rattle.std.proofs.lemmas.List.{length-append, length-drop}
use Rattle.lit_read.specs.declared.fault.ReadKind.{ReadKind}
use Rattle.lit_read.specs.declared.fault.ReadKind.TheVariants.{TooLong, NotAscii, Syntax, Misplaced, BlockSize, TooManyAgents, DuplicateAgent, LiteralRange, OutOfBlock, UnknownName, TooDeep, MissingPart, OutOfMemory}
use Rattle.lit_syntax.specs.declared.limits.TheConstants.{TEXT_LIMIT}
use Rattle.lit_syntax.specs.Syntax.{Litmus, IsLitmus}
use Rattle.lit_read.specs.Lines.{lines_of}
use Rattle.lit_syntax.specs.Tokens.{Token, CutsInto}
use Rattle.lit_syntax.specs.Forms.{Form, without_blanks}
use Rattle.lit_read.specs.Faults.{number_of, is_allowed, HasFault, IsFirstFault}
use Rattle.lit_read.specs.Spelling.{AreFormsOf, Spells}
use Rattle.lit_read.specs.Internal.FirstToken.{token_front, after_blanks, is_comment}
use Rattle.lit_read.specs.Internal.FormOfTokens.{after_word, fixed_form}
use Rattle.lit_read.specs.Internal.Marks.{Mark, mark_tokens, mark_of, follow, SpellsMarks, SpellsNoCondition, IsSpelling}
use Rattle.lit_read.specs.Internal.State.{State, Empty, Named, Sized, Open, Whole, step, IsState}
use Rattle.lit_read.specs.Internal.LineSteps.{IsLine, IsNoLine}
use Rattle.lit_read.proofs.LineLemmas.{behind, lines_split}
use Rattle.lit_read.proofs.Cuttings.{Cutting, cutting_begins, cutting_goes_on, cutting_ends, cutting_fails, cut_shorter}
use Rattle.lit_read.proofs.FormLemmas.{fixed_form_is}
use Rattle.lit_read.proofs.MarkLemmas.{Marking, marking_begins, marking_goes_on, marking_stuck, marking_ends, marking_fails, mark_is, mark_long}
use Rattle.lit_read.proofs.LineForms.{no_check, check_found, check_absent, form_absent}
use Rattle.lit_read.proofs.StepFaults.{Outcome, outcome}
use Rattle.lit_read.proofs.ReadLemmas.{forms_once, no_form, no_cut}
use Rattle.lit_read.proofs.Progress.{Progress, progress_begins, progress_goes_on, progress_fails, progress_spells, progress_ends, too_long, faulty_kind}
use Rattle.lit_read.proofs.TestForms.{one_test_of}

-- ---- one test

pub one_test : (text : List ℕ) (t u : Litmus) → Spells text t → Spells text u → t ≡ u
one_test text t u a b =
    let same : a.forms ≡ b.forms = forms_once (lines_of text) a.forms b.forms a.lines b.lines in
    one_test_of (without_blanks b.forms) t u (subst (λ (fs : List Form). AreFormsOf (without_blanks fs) t) same a.are) b.are

-- ---- one first fault

kind_of : ℕ → ReadKind
kind_of n =
    cond (eqb n 1) TooLong (cond (eqb n 2) NotAscii (cond (eqb n 3) Syntax (cond (eqb n 4) Misplaced (cond (eqb n 5) BlockSize (cond (eqb n 6) TooManyAgents
    (cond (eqb n 7) DuplicateAgent (cond (eqb n 8) LiteralRange (cond (eqb n 9) OutOfBlock (cond (eqb n 10) UnknownName (cond (eqb n 11) TooDeep (cond (eqb n 12) MissingPart OutOfMemory)))))))))))

kind_back : (k : ReadKind) → kind_of (number_of k) ≡ k
unfolding kind_of
kind_back TooLong = refl
kind_back NotAscii = refl
kind_back Syntax = refl
kind_back Misplaced = refl
kind_back BlockSize = refl
kind_back TooManyAgents = refl
kind_back DuplicateAgent = refl
kind_back LiteralRange = refl
kind_back OutOfBlock = refl
kind_back UnknownName = refl
kind_back TooDeep = refl
kind_back MissingPart = refl
kind_back OutOfMemory = refl

pub one_first : (text : List ℕ) (k l : ReadKind) (m n : ℕ) → IsFirstFault text k m → IsFirstFault text l n → (k ≡ l) × (m ≡ n)
one_first text k l m n a b =
    let lines : m ≡ n = omega (arith, a.no_earlier l n b.there, b.no_earlier k m a.there) in
    let there : HasFault text l m = subst (λ (x : ℕ). HasFault text l x) (sym lines) b.there in
    let here : HasFault text k n = subst (λ (x : ℕ). HasFault text k x) lines a.there in
    let numbers : number_of k ≡ number_of l = omega (arith, a.no_lower l there, b.no_lower k here) in
    (sym (kind_back k) ∙ ap kind_of numbers ∙ kind_back l, lines)

-- ---- each line is told

tokens_told : (n : ℕ) (line rest : List ℕ) (done : List Token) → length rest < n → Cutting line rest done → ((ts : List Token) × CutsInto line ts) ⊎ ((ts : List Token) → CutsInto line ts → ⊥)
tokens_told zero line rest done lt so_far = absurd (omega arith)
tokens_told (suc n) line rest done lt so_far =
    by (is_comment (after_blanks rest)) refl (token_front (after_blanks rest)) refl (λ t after e. tokens_told n line after (done ++ t ∷ []) (omega (arith, cut_shorter rest t after e)) (cutting_goes_on line rest after done t e so_far))
  where
    by : (b : Bool) → is_comment (after_blanks rest) ≡ b → (o : Option (Token × List ℕ)) → token_front (after_blanks rest) ≡ o
        → ((t : Token) (after : List ℕ) → token_front (after_blanks rest) ≡ Some (t, after) → ((ts : List Token) × CutsInto line ts) ⊎ ((ts : List Token) → CutsInto line ts → ⊥))
        → ((ts : List Token) × CutsInto line ts) ⊎ ((ts : List Token) → CutsInto line ts → ⊥)
    by true over o front more = inl (done, cutting_ends line rest done over so_far)
    by false left None front more = inr (cutting_fails line rest done left front so_far)
    by false left (Some p) front more = more p.0 p.1 front

abbrev ToldCondition : List Token → Type 0
ToldCondition tokens = ((ms : List Mark) × SpellsMarks tokens ms) ⊎ SpellsNoCondition tokens

condition_told : (fuel : ℕ) (tokens rest : List Token) (done : List Mark) (b : Bool) (n : ℕ) → length rest < fuel → Marking tokens rest done b n → ToldCondition tokens
condition_told zero tokens rest done b n lt so_far = absurd (omega arith)
condition_told (suc fuel) tokens rest done b n lt so_far =
    by (mark_of rest) refl (λ m after c k e step. condition_told fuel tokens after (done ++ m ∷ []) c k (shorter m after e) (marking_goes_on tokens rest after done b n m c k e step so_far))
  where
    shorter : (m : Mark) (after : List Token) → mark_of rest ≡ Some (m, after) → length after < fuel
    shorter m after e = let front = mark_is rest m after e in omega (arith, ap length front.0, length-append (mark_tokens m) after, mark_long m)

    ended : mark_of rest ≡ None → (x : List Token) → rest ≡ x → (y : Bool) → b ≡ y → (z : Bool) → eqb n 0 ≡ z → ToldCondition tokens
    ended e [] is true b_is true n_is = inl (done, marking_ends tokens rest done b n is b_is (eqb-true _ _ n_is) so_far)
    ended e [] is true b_is false n_is = inr (marking_fails tokens rest done b n e (λ x y z. let zero_is : eqb n 0 ≡ true = ap (λ (k : ℕ). eqb k 0) z in absurd cc) so_far)
    ended e [] is false b_is z n_is = inr (marking_fails tokens rest done b n e (λ x y z. absurd cc) so_far)
    ended e (t ∷ ts) is y b_is z n_is = inr (marking_fails tokens rest done b n e (λ x y z. let none : t ∷ ts ≡ [] = sym is ∙ x in absurd cc) so_far)

    stepped : (m : Mark) (after : List Token) → mark_of rest ≡ Some (m, after) → (o : Option (Bool × ℕ)) → follow b n m ≡ o
        → ((m : Mark) (after : List Token) (c : Bool) (k : ℕ) → mark_of rest ≡ Some (m, after) → follow b n m ≡ Some (c, k) → ToldCondition tokens) → ToldCondition tokens
    stepped m after e None is more = inr (marking_stuck tokens rest after done b n m e is so_far)
    stepped m after e (Some p) is more = more m after p.0 p.1 e is

    by : (o : Option (Mark × List Token)) → mark_of rest ≡ o → ((m : Mark) (after : List Token) (c : Bool) (k : ℕ) → mark_of rest ≡ Some (m, after) → follow b n m ≡ Some (c, k) → ToldCondition tokens) → ToldCondition tokens
    by None e more = ended e rest refl b refl (eqb n 0) refl
    by (Some p) e more = stepped p.0 p.1 e (follow b n p.0) refl more

form_told : (ts : List Token) → ((f : Form) × IsSpelling ts f) ⊎ ((f : Form) → IsSpelling ts f → ⊥)
form_told ts = by (fixed_form ts) refl (after_word ts (codes "check")) refl
  where
    behind_check : (rest : List Token) → after_word ts (codes "check") ≡ Some rest → fixed_form ts ≡ None → ToldCondition rest → ((f : Form) × IsSpelling ts f) ⊎ ((f : Form) → IsSpelling ts f → ⊥)
    behind_check rest e none (inl p) = let found = check_found ts rest p.0 e p.1 in inl (found.0, found.2)
    behind_check rest e none (inr other) = inr (form_absent ts none (check_absent ts rest e other))

    by : (o : Option Form) → fixed_form ts ≡ o → (w : Option (List Token)) → after_word ts (codes "check") ≡ w → ((f : Form) × IsSpelling ts f) ⊎ ((f : Form) → IsSpelling ts f → ⊥)
    by (Some f) e w is = inl (f, fixed_form_is ts f e)
    by None e None is = inr (form_absent ts e (no_check ts is))
    by None e (Some rest) is = behind_check rest is e (condition_told (suc (length rest)) rest rest [] false 0 (omega arith) (marking_begins rest))

line_told : (line : List ℕ) → ((f : Form) × IsLine line f) ⊎ ((k : ReadKind) × (k ≢ OutOfMemory) × IsNoLine line k)
line_told line = by (list_all is_allowed line) refl (tokens_told (suc (length line)) line line [] (omega arith) (cutting_begins line))
  where
    formed : list_all is_allowed line ≡ true → (ts : List Token) → CutsInto line ts → ((f : Form) × IsSpelling ts f) ⊎ ((f : Form) → IsSpelling ts f → ⊥)
        → ((f : Form) × IsLine line f) ⊎ ((k : ReadKind) × (k ≢ OutOfMemory) × IsNoLine line k)
    formed allowed ts cut (inl p) = inl (p.0, record { allowed = allowed; has = record { tokens = ts; cut = cut; spelling = p.1 } })
    formed allowed ts cut (inr other) = inr (Syntax, (λ e. absurd cc), inr (inr (refl, allowed, no_form line ts cut other)))

    by : (b : Bool) → list_all is_allowed line ≡ b → ((ts : List Token) × CutsInto line ts) ⊎ ((ts : List Token) → CutsInto line ts → ⊥)
        → ((f : Form) × IsLine line f) ⊎ ((k : ReadKind) × (k ≢ OutOfMemory) × IsNoLine line k)
    by false bad cut = inr (NotAscii, (λ e. absurd cc), inr (inl (refl, bad)))
    by true allowed (inl p) = formed allowed p.0 p.1 (form_told p.0)
    by true allowed (inr other) = inr (Syntax, (λ e. absurd cc), inr (inr (refl, allowed, no_cut line other)))

-- ---- each text is told

abbrev Told : List ℕ → Type 0
Told text = ((t : Litmus) × Spells text t × IsLitmus t) ⊎ ((kind : ReadKind) × (line : ℕ) × IsFirstFault text kind line)

no_memory : (k : ReadKind) (given : List Form) (f : Form) → Outcome given f (Err k) → k ≢ OutOfMemory
no_memory k given f out e = (faulty_kind k given f out.1).0.2 e

litmus_in : (t : Litmus) → IsState (Whole t) → IsLitmus t
unfolding IsState
litmus_in t is = is

ended_told : (text : List ℕ) (number : ℕ) (s : State) → Progress text number s None → Told text
ended_told text number Empty p = inr (MissingPart, number, progress_ends text number Empty p tt)
ended_told text number (Named m) p = inr (MissingPart, number, progress_ends text number (Named m) p tt)
ended_told text number (Sized m b) p = inr (MissingPart, number, progress_ends text number (Sized m b) p tt)
ended_told text number (Open m b agents agent ifs body) p = inr (MissingPart, number, progress_ends text number (Open m b agents agent ifs body) p tt)
ended_told text number (Whole t) p = inl (t, progress_spells text number t p, litmus_in t p.sound)

failed : (text : List ℕ) (k : ReadKind) (n : ℕ) → k ≢ OutOfMemory → (k ≡ OutOfMemory) ⊎ IsFirstFault text k n → Told text
failed text k n ne (inl e) = absurd (ne e)
failed text k n ne (inr first) = inr (k, n, first)

abbrev size : Option (List ℕ) → ℕ
size None = 0
size (Some left) = suc (length left)

behind_short : (xs : List ℕ) → size (behind xs) ≤ length xs
behind_short [] = omega arith
behind_short (x ∷ []) = omega arith
behind_short (x ∷ y ∷ ys) = omega arith

rest_told : (n : ℕ) (text : List ℕ) (number : ℕ) (s : State) (rest : Option (List ℕ)) → size rest < n → Progress text number s rest → Told text
rest_told zero text number s rest lt p = absurd (omega arith)
rest_told (suc n) text number s None lt p = ended_told text number s p
rest_told (suc n) text number s (Some left) lt p =
    by (line_told line) (λ t q. rest_told n text (number + 1) t after (omega (arith, behind_short (drop len left), length-drop len left)) q)
  where
    len : ℕ
    len = prefix_len (λ b. not (eqb b 10)) left

    line : List ℕ
    line = take len left

    after : Option (List ℕ)
    after = behind (drop len left)

    stepped : (f : Form) → IsLine line f → (r : Result State ReadKind) → step s f ≡ r → ((t : State) → Progress text (number + 1) t after → Told text) → Told text
    stepped f is (Ok t) e more = more t (progress_goes_on text left line number s after p (lines_split left) t (record { form = f; is = is; steps = e }))
    stepped f is (Err k) e more =
        failed text k (number + 1) (no_memory k (without_blanks p.before) f (subst (Outcome (without_blanks p.before) f) e (outcome s (without_blanks p.before) f p.holds)))
        (progress_fails text left line number s after p (lines_split left) k (inr (record { form = f; is = is; steps = e })))

    by : ((f : Form) × IsLine line f) ⊎ ((k : ReadKind) × (k ≢ OutOfMemory) × IsNoLine line k) → ((t : State) → Progress text (number + 1) t after → Told text) → Told text
    by (inl q) more = stepped q.0 q.1 (step s q.0) refl more
    by (inr q) more = failed text q.0 (number + 1) q.1 (progress_fails text left line number s after p (lines_split left) q.0 (inl q.2))

told : (text : List ℕ) → Told text
told text =
    elim (cases_lt TEXT_LIMIT (length text)) [
      | inl long ↦ inr (TooLong, 1, too_long text long)
      | inr short ↦ rest_told (suc (suc (suc (length text)))) text 0 Empty (Some text) (omega arith) (progress_begins text short)
    ]

pub text_told : (text : List ℕ) → ((t : Litmus) × Spells text t) ⊎ ((kind : ReadKind) × (line : ℕ) × IsFirstFault text kind line)
text_told text = elim (told text) [ inl p ↦ inl (p.0, p.1) | inr p ↦ inr p ]

pub spelled_litmus : (text : List ℕ) (t : Litmus) → Spells text t → IsLitmus t
spelled_litmus text t spells = elim (told text) [ inl p ↦ subst IsLitmus (one_test text p.0 t p.1 spells) p.2 | inr p ↦ absurd (spells.faultless p.0 p.1 p.2.there) ]
