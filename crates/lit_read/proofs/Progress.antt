-- How far a text is read, and what that says in the end.
use Rattle.std.proofs.Common.{◌≡◌, ◌≢◌, ℕ, suc, ◌+◌, ◌-◌, ◌<◌, ◌≤◌, Bool, true, false, cond, eqb, List, [], ◌∷◌, ◌++◌, length, get_or, take, ◌⊎◌, inl, inr, refl, sym, ap, subst, ◌∙◌, Option, Some, None, Ok, Err, arith, true≢false, append_assoc}
use Rattle.std.specs.List.{AllZip, list_all, list_any}
use Rattle.std.proofs.lemmas.Bool.{cases_lt}
use Rattle.std.proofs.lemmas.List.{append-nil, length-append, take_at}
use Rattle.lit_read.specs.declared.fault.ReadKind.{ReadKind}
use Rattle.lit_read.specs.declared.fault.ReadKind.TheVariants.{TooLong, NotAscii, Syntax, Misplaced, BlockSize, TooManyAgents, DuplicateAgent, LiteralRange, OutOfBlock, UnknownName, TooDeep, MissingPart, OutOfMemory}
use Rattle.lit_syntax.specs.declared.limits.TheConstants.{TEXT_LIMIT}
use Rattle.lit_syntax.specs.Syntax.{Litmus}
use Rattle.lit_read.specs.Lines.{lines_of, lines_from, onto_first}
use Rattle.lit_syntax.specs.Forms.{Form, HasForm, without_blanks}
use Rattle.lit_read.specs.Faults.{number_of, is_allowed, is_check_line, is_faulty, HasLineFault, HasFault, IsFirstFault, IsReadFault}
use Rattle.lit_read.specs.Spelling.{Spells}
use Rattle.lit_read.specs.Internal.State.{State, Empty, Whole, IsState, IsUnfinished}
use Rattle.lit_read.specs.Internal.LineSteps.{LineStep, LineFails}
use Rattle.lit_read.proofs.StepLemmas.{step_preserved}
use Rattle.lit_read.proofs.DraftForms.{Holds, not_checked, is_checked}
use Rattle.lit_read.proofs.StepFaults.{Clear, below, Outcome, outcome}
use Rattle.lit_read.proofs.StepHolds.{step_holds}
use Rattle.lit_read.proofs.ReadLemmas.{has_words, forms_once, forms_added, blanks_added, checks_left, line_fault_is, made_fault, LineFault, Which, Long, Ended, Line, which, IsOfLine, line_is_fault}
use Rattle.lit_read.proofs.LineLemmas.{onto_some}

-- ---- lines and numbers

pub lines_some : (text : List ℕ) → 1 ≤ length (lines_of text)
unfolding lines_of
lines_some [] = omega arith
lines_some (b ∷ []) = elim (eqb b 10) as (λ t. 1 ≤ length (cond t ([] ∷ []) ((b ∷ []) ∷ []))) [ true ↦ omega arith | false ↦ omega arith ]
lines_some (b ∷ c ∷ bs) = elim (eqb b 10) as (λ t. 1 ≤ length (cond t ([] ∷ lines_of (c ∷ bs)) (onto_first b (lines_of (c ∷ bs))))) [ true ↦ omega arith | false ↦ onto_some b (lines_of (c ∷ bs)) ]

pub lines_few : (text : List ℕ) → length (lines_of text) ≤ length text + 1
unfolding lines_of
lines_few [] = omega arith
lines_few (b ∷ []) = elim (eqb b 10) as (λ t. length (cond t ([] ∷ []) ((b ∷ []) ∷ [])) ≤ length (b ∷ []) + 1) [ true ↦ omega arith | false ↦ omega arith ]
lines_few (b ∷ c ∷ bs) = by (eqb b 10) (lines_of (c ∷ bs)) (lines_few (c ∷ bs))
  where
    onto_few : (ls : List (List ℕ)) → length ls ≤ suc (length bs) + 1 → length (onto_first b ls) ≤ suc (suc (length bs)) + 1
    onto_few [] h = omega arith
    onto_few (l ∷ ls) h = omega (arith, h)

    by : (t : Bool) (ls : List (List ℕ)) → length ls ≤ suc (length bs) + 1 → length (cond t ([] ∷ ls) (onto_first b ls)) ≤ suc (suc (length bs)) + 1
    by true ls h = omega (arith, h)
    by false ls h = onto_few ls h

fault_line : (text : List ℕ) (k : ReadKind) (n : ℕ) → HasFault text k n → 1 ≤ n
fault_line text k n h = by (which text k n h)
  where
    by : Which text k n → 1 ≤ n
    by (Long long is) = omega arith
    by (Ended e is forms have none) = omega (arith, lines_some text)
    by (Line ne fault) = fault.above.0

read_at : (xs : List (List ℕ)) (y : List ℕ) (ys : List (List ℕ)) → get_or (xs ++ y ∷ ys) (length xs) [] ≡ y
read_at [] y ys = refl
read_at (x ∷ xs) y ys = read_at xs y ys

number_within : (k : ReadKind) → (1 ≤ number_of k) × (number_of k < 17)
number_within TooLong = (omega arith, omega arith)
number_within NotAscii = (omega arith, omega arith)
number_within Syntax = (omega arith, omega arith)
number_within Misplaced = (omega arith, omega arith)
number_within BlockSize = (omega arith, omega arith)
number_within TooManyAgents = (omega arith, omega arith)
number_within DuplicateAgent = (omega arith, omega arith)
number_within LiteralRange = (omega arith, omega arith)
number_within OutOfBlock = (omega arith, omega arith)
number_within UnknownName = (omega arith, omega arith)
number_within TooDeep = (omega arith, omega arith)
number_within MissingPart = (omega arith, omega arith)
number_within OutOfMemory = (omega arith, omega arith)

-- a fault that a form has
pub faulty_kind : (k : ReadKind) (given : List Form) (f : Form) → is_faulty k given f ≡ true → IsOfLine k × (number_of k ≤ 12)
unfolding is_faulty
faulty_kind TooLong given f h = absurd cc
faulty_kind NotAscii given f h = absurd cc
faulty_kind Syntax given f h = absurd cc
faulty_kind MissingPart given f h = absurd cc
faulty_kind OutOfMemory given f h = absurd cc
faulty_kind Misplaced given f h = ((λ e. absurd cc, λ e. absurd cc, λ e. absurd cc), omega arith)
faulty_kind BlockSize given f h = ((λ e. absurd cc, λ e. absurd cc, λ e. absurd cc), omega arith)
faulty_kind TooManyAgents given f h = ((λ e. absurd cc, λ e. absurd cc, λ e. absurd cc), omega arith)
faulty_kind DuplicateAgent given f h = ((λ e. absurd cc, λ e. absurd cc, λ e. absurd cc), omega arith)
faulty_kind LiteralRange given f h = ((λ e. absurd cc, λ e. absurd cc, λ e. absurd cc), omega arith)
faulty_kind OutOfBlock given f h = ((λ e. absurd cc, λ e. absurd cc, λ e. absurd cc), omega arith)
faulty_kind UnknownName given f h = ((λ e. absurd cc, λ e. absurd cc, λ e. absurd cc), omega arith)
faulty_kind TooDeep given f h = ((λ e. absurd cc, λ e. absurd cc, λ e. absurd cc), omega arith)

-- ---- lowest faults of a line

line_number : (j : ReadKind) (before : List Form) (line : List ℕ) → HasLineFault j before line → 2 ≤ number_of j
unfolding HasLineFault is_faulty
line_number TooLong before line h = absurd (true≢false (sym h.2))
line_number NotAscii before line h = omega arith
line_number Syntax before line h = omega arith
line_number Misplaced before line h = omega arith
line_number BlockSize before line h = omega arith
line_number TooManyAgents before line h = omega arith
line_number DuplicateAgent before line h = omega arith
line_number LiteralRange before line h = omega arith
line_number OutOfBlock before line h = omega arith
line_number UnknownName before line h = omega arith
line_number TooDeep before line h = omega arith
line_number MissingPart before line h = omega arith
line_number OutOfMemory before line h = omega arith

formless_number : (j : ReadKind) (before : List Form) (line : List ℕ) → list_all is_allowed line ≡ true → HasLineFault j before line → 3 ≤ number_of j
unfolding HasLineFault is_faulty
formless_number TooLong before line allowed h = absurd (true≢false (sym h.2))
formless_number NotAscii before line allowed h = absurd (true≢false (sym allowed ∙ h))
formless_number Syntax before line allowed h = omega arith
formless_number Misplaced before line allowed h = omega arith
formless_number BlockSize before line allowed h = omega arith
formless_number TooManyAgents before line allowed h = omega arith
formless_number DuplicateAgent before line allowed h = omega arith
formless_number LiteralRange before line allowed h = omega arith
formless_number OutOfBlock before line allowed h = omega arith
formless_number UnknownName before line allowed h = omega arith
formless_number TooDeep before line allowed h = omega arith
formless_number MissingPart before line allowed h = omega arith
formless_number OutOfMemory before line allowed h = omega arith

not_ascii : (before : List Form) (line : List ℕ) → list_all is_allowed line ≡ false → HasLineFault NotAscii before line
unfolding HasLineFault
not_ascii before line h = h

no_syntax : (before : List Form) (line : List ℕ) → ((f : Form) → HasForm line f → ⊥) → HasLineFault Syntax before line
unfolding HasLineFault
no_syntax before line h = h

-- ---- the text so far

-- So many lines are read, have these forms and no fault, and the draft holds them. A part may still be missing.
pub record Progress (text : List ℕ) (number : ℕ) (s : State) (rest : Option (List ℕ)) : Type 0 where
  pub short : length text ≤ TEXT_LIMIT
  pub done : List (List ℕ)
  pub before : List Form
  pub split : lines_of text ≡ done ++ lines_from rest
  pub count : length done ≡ number
  pub have : AllZip HasForm done before
  pub holds : Holds (without_blanks before) s
  pub sound : IsState s
  pub clean : (k : ReadKind) (n : ℕ) → k ≢ MissingPart → HasFault text k n → number < n

pub progress_begins : (text : List ℕ) → length text ≤ TEXT_LIMIT → Progress text 0 Empty (Some text)
unfolding IsState
progress_begins text short = record { short = short; done = []; before = []; split = refl; count = refl; have = tt; holds = refl; sound = tt; clean = λ k n ne h. fault_line text k n h }

module _ (text left line : List ℕ) (number : ℕ) (s : State) (after : Option (List ℕ)) (p : Progress text number s (Some left)) (is : lines_of left ≡ line ∷ lines_from after) where
  split_here : lines_of text ≡ p.done ++ line ∷ lines_from after
  split_here = p.split ∙ ap (λ (ls : List (List ℕ)). p.done ++ ls) is

  line_here : get_or (lines_of text) ((number + 1) - 1) [] ≡ line
  line_here =
      let place : (number + 1) - 1 ≡ length p.done = omega (arith, p.count) in
      rw (place, split_here) (read_at p.done line (lines_from after))

  lines_above : take ((number + 1) - 1) (lines_of text) ≡ p.done
  lines_above =
      let place : (number + 1) - 1 ≡ length p.done = omega (arith, p.count) in
      rw (place, split_here) (take_at p.done (line ∷ lines_from after) (length p.done) refl)

  lines_many : number + 1 ≤ length (lines_of text)
  lines_many = omega (arith, ap length split_here, length-append p.done (line ∷ lines_from after), p.count)

  -- a fault of this line, with the forms so far
  fault_here : (k : ReadKind) → LineFault text k (number + 1) → HasLineFault k p.before line
  fault_here k f =
      let have : AllZip HasForm p.done f.before = subst (λ (ls : List (List ℕ)). AllZip HasForm ls f.before) lines_above f.above.2 in
      let same : f.before ≡ p.before = forms_once p.done f.before p.before have p.have in
      subst (λ (fs : List Form). HasLineFault k fs line) same (subst (λ (l : List ℕ). HasLineFault k f.before l) line_here f.fault)

  here_fault : (k : ReadKind) → HasLineFault k p.before line → LineFault text k (number + 1)
  here_fault k h = record {
    before = p.before;
    above = (omega arith, lines_many, subst (λ (ls : List (List ℕ)). AllZip HasForm ls p.before) (sym lines_above) p.have);
    fault = subst (λ (l : List ℕ). HasLineFault k p.before l) (sym line_here) h;
  }

  first_here : (k : ReadKind) → IsOfLine k → number_of k ≤ 12 → HasLineFault k p.before line → ((j : ReadKind) → HasLineFault j p.before line → number_of k ≤ number_of j) → IsFirstFault text k (number + 1)
  first_here k of low h least = record {
    there = line_is_fault text k (number + 1) of (here_fault k h);
    no_earlier = λ j n fault. earlier j n fault (which text j n fault);
    no_lower = λ j fault. lower j (which text j (number + 1) fault);
  }
    where
      earlier : (j : ReadKind) (n : ℕ) → HasFault text j n → Which text j n → number + 1 ≤ n
      earlier j n fault (Long long e) = absurd (omega (arith, p.short))
      earlier j n fault (Ended e n_is forms have none) = omega (arith, lines_many)
      earlier j n fault (Line ne f) = omega (arith, p.clean j n ne fault)

      lower : (j : ReadKind) → Which text j (number + 1) → number_of k ≤ number_of j
      lower j (Long long e) = absurd (omega (arith, p.short))
      lower j (Ended e n_is forms have none) = rw e low
      lower j (Line ne f) = least j (fault_here j f)

  step_first : (k : ReadKind) → LineStep s line (Err k) → IsFirstFault text k (number + 1)
  step_first k st =
      let out : Outcome (without_blanks p.before) st.form (Err k) = subst (Outcome (without_blanks p.before) st.form) st.steps (outcome s (without_blanks p.before) st.form p.holds) in
      let kind = faulty_kind k (without_blanks p.before) st.form out.1 in
      first_here k kind.0 kind.1 (made_fault k p.before line st.form st.is out.1) (λ j h.
      elim (cases_lt (number_of j) (number_of k)) [
        | inl lt ↦ absurd (true≢false (sym (line_fault_is j p.before line st.form st.is h) ∙ below (number_of k) (without_blanks p.before) st.form out.0 j lt))
        | inr le ↦ le
      ])

  -- a line that cannot be read is the first fault
  pub progress_fails : (k : ReadKind) → LineFails s line k → (k ≡ OutOfMemory) ⊎ IsFirstFault text k (number + 1)
  progress_fails k (inl (inl e)) = inl e
  progress_fails k (inl (inr (inl h))) =
      inr (subst (λ (x : ReadKind). IsFirstFault text x (number + 1)) (sym h.0) (first_here NotAscii (λ e. absurd cc, λ e. absurd cc, λ e. absurd cc) (omega arith) (not_ascii p.before line h.1) (λ j f. line_number j p.before line f)))
  progress_fails k (inl (inr (inr h))) =
      inr (subst (λ (x : ReadKind). IsFirstFault text x (number + 1)) (sym h.0) (first_here Syntax (λ e. absurd cc, λ e. absurd cc, λ e. absurd cc) (omega arith) (no_syntax p.before line h.2) (λ j f. formless_number j p.before line h.1 f)))
  progress_fails k (inr st) = inr (step_first k st)

  -- a line that is read has no fault
  no_fault_here : (t : State) → LineStep s line (Ok t) → (k : ReadKind) → LineFault text k (number + 1) → ⊥
  no_fault_here t st k f =
      let clear : Clear 17 (without_blanks p.before) st.form = subst (Outcome (without_blanks p.before) st.form) st.steps (outcome s (without_blanks p.before) st.form p.holds) in
      true≢false (sym (line_fault_is k p.before line st.form st.is (fault_here k f)) ∙ below 17 (without_blanks p.before) st.form clear k (number_within k).1)

  pub progress_goes_on : (t : State) → LineStep s line (Ok t) → Progress text (number + 1) t after
  progress_goes_on t st = record {
    short = p.short;
    done = p.done ++ line ∷ [];
    before = p.before ++ st.form ∷ [];
    split = split_here ∙ sym (append_assoc p.done (line ∷ []) (lines_from after));
    count = omega (arith, length-append p.done (line ∷ []), p.count);
    have = forms_added p.done p.before line st.form p.have st.is.has;
    holds = rw (blanks_added p.before st.form) (step_holds s t (without_blanks p.before) st.form st.is.has.spelling.1 p.holds st.steps);
    sound = step_preserved s t st.form p.sound st.is.has.spelling.1 (has_words line st.form st.is.has) st.steps;
    clean = λ k n ne h. later k n ne h (which text k n h);
  }
    where
      later : (k : ReadKind) (n : ℕ) → k ≢ MissingPart → HasFault text k n → Which text k n → number + 1 < n
      later k n ne h (Long long e) = absurd (omega (arith, p.short))
      later k n ne h (Ended e n_is forms have none) = absurd (ne e)
      later k n ne h (Line other f) =
          elim (cases_lt (number + 1) n) [
            | inl lt ↦ lt
            | inr le ↦ (
                let n_is : n ≡ number + 1 = omega (arith, p.clean k n ne h) in
                absurd (no_fault_here t st k (subst (λ (x : ℕ). LineFault text k x) n_is f))
                )
          ]

pub number_fits : (text left line : List ℕ) (number : ℕ) (s : State) (after : Option (List ℕ)) → Progress text number s (Some left) → lines_of left ≡ line ∷ lines_from after → number + 1 ≤ TEXT_LIMIT + 1
number_fits text left line number s after p is = omega (arith, lines_many text left line number s after p is, lines_few text, p.short)

-- ---- refusals

no_memory_fault : (text : List ℕ) (k : ReadKind) (n : ℕ) → IsFirstFault text k n → k ≢ OutOfMemory
unfolding HasFault
no_memory_fault text k n first e = subst (λ (x : ReadKind). HasFault text x n) e first.there

pub refused : (text : List ℕ) (k kind : ReadKind) (n line : ℕ) → kind ≡ k → (k ≡ OutOfMemory → line ≡ 0) → (k ≢ OutOfMemory → line ≡ n) → (k ≡ OutOfMemory) ⊎ IsFirstFault text k n → IsReadFault text kind line
refused text k kind n line kind_is memory place (inl e) = inl (kind_is ∙ e, memory e)
refused text k kind n line kind_is memory place (inr first) = inr (rw (kind_is, place (no_memory_fault text k n first)) first)

-- ---- the end of the text

all_done : (text : List ℕ) (number : ℕ) (s : State) → (p : Progress text number s None) → lines_of text ≡ p.done
all_done text number s p = p.split ∙ append-nil p.done

pub progress_spells : (text : List ℕ) (number : ℕ) (t : Litmus) → Progress text number (Whole t) None → Spells text t
progress_spells text number t p =
    let lines : AllZip HasForm (lines_of text) p.before = subst (λ (ls : List (List ℕ)). AllZip HasForm ls p.before) (sym (all_done text number (Whole t) p)) p.have in
    record { faultless = λ k n h. none k n h (which text k n h); forms = p.before; lines = lines; are = p.holds }
  where
    none : (k : ReadKind) (n : ℕ) → HasFault text k n → Which text k n → ⊥
    none k n h (Long long e) = omega (arith, p.short)
    none k n h (Ended e n_is forms have unchecked) =
        let lines : AllZip HasForm p.done forms = subst (λ (ls : List (List ℕ)). AllZip HasForm ls forms) (all_done text number (Whole t) p) have in
        let same : forms ≡ p.before = forms_once p.done forms p.before lines p.have in
        true≢false (sym (is_checked t (without_blanks p.before) p.holds) ∙ checks_left p.before ∙ ap (list_any is_check_line) (sym same) ∙ unchecked)
    none k n h (Line ne f) = omega (arith, p.clean k n ne h, f.above.1, ap length (all_done text number (Whole t) p), p.count)

missing_there : (text : List ℕ) (number : ℕ) (s : State) → (p : Progress text number s None) → IsUnfinished s → HasFault text MissingPart number
unfolding HasFault
missing_there text number s p u =
    let done = all_done text number s p in
    (sym (ap length done ∙ p.count), (p.before, subst (λ (ls : List (List ℕ)). AllZip HasForm ls p.before) (sym done) p.have, sym (checks_left p.before) ∙ not_checked s (without_blanks p.before) p.holds u))

pub progress_ends : (text : List ℕ) (number : ℕ) (s : State) → Progress text number s None → IsUnfinished s → IsFirstFault text MissingPart number
progress_ends text number s p u = record {
  there = missing_there text number s p u;
  no_earlier = λ k n h. earlier k n h (which text k n h);
  no_lower = λ k h. lower k h (which text k number h);
}
  where
    earlier : (k : ReadKind) (n : ℕ) → HasFault text k n → Which text k n → number ≤ n
    earlier k n h (Long long e) = absurd (omega (arith, p.short))
    earlier k n h (Ended e n_is forms have none) = omega (arith, ap length (all_done text number s p), p.count)
    earlier k n h (Line ne f) = omega (arith, p.clean k n ne h)

    lower : (k : ReadKind) → HasFault text k number → Which text k number → 12 ≤ number_of k
    lower k h (Long long e) = absurd (omega (arith, p.short))
    lower k h (Ended e n_is forms have none) = rw e (omega arith)
    lower k h (Line ne f) = absurd (omega (arith, p.clean k number ne h))

too_long_there : (text : List ℕ) → TEXT_LIMIT < length text → HasFault text TooLong 1
unfolding HasFault
too_long_there text long = (long, refl)

pub too_long : (text : List ℕ) → TEXT_LIMIT < length text → IsFirstFault text TooLong 1
too_long text long = record { there = too_long_there text long; no_earlier = λ k n h. fault_line text k n h; no_lower = λ k h. (number_within k).0 }
