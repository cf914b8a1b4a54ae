-- What a search found, as the answer for a test and for a text.
use Rattle.std.proofs.Common.{◌≡◌, ℕ, ◌+◌, ◌<◌, Bool, Option, Some, None, List, length, Ok, Err, OnOk, refl, sym, ap, subst, ◌∙◌, arith}
use Rattle.std.specs.Prelude.{IsTrue, is_some}
use Rattle.std.proofs.lemmas.Bool.Decides.{nat_tests}
use Rattle.std.proofs.lemmas.Option.{slice_get-get_or, slice_get_within}
use Rattle.std.specs.declared.result.Result.{Result}
use Rattle.std.specs.Io.KnownBytes.{Appends}
use Rattle.lit_syntax.specs.Syntax.{IsLitmus, Litmus}
use Rattle.lit_read.specs.Spelling.{Spells}
use Rattle.lit_paths.specs.Choice.{choices_of}
use Rattle.lit_paths.specs.declared.fault.PlanFault.{PlanFault}
use Rattle.lit_paths.specs.Refusal.{IsRefusal}
use Rattle.lit_valid.specs.declared.class.Class.{Class}
use Rattle.lit_valid.specs.declared.class.Class.TheVariants.{Met, Unmet}
use Rattle.lit_search.specs.FirstOfClass.{IsFirstOf}
use Rattle.lit_valid.specs.Gives.{Gives}
use Rattle.lit_search.specs.Report.{Report, IsReport, entry_at, in_range}
use Rattle.lit_report.specs.declared.verdict.Verdict.{Verdict}
use Rattle.jslit.specs.Answer.{HasBegun, HasReported, IsAnswerOn, IsComplete, IsQuickReportOf, IsReportOf}
use Rattle.lit_report.specs.ReportText.{quick_text, report_text}
use Rattle.lit_report.specs.Verdict.{IsVerdict, verdict_of}
use Rattle.jslit.specs.Internal.Answering.{HasWritten, HasWrittenSome, IsAnswerOf, IsFirstFound}
use Rattle.lit_report.specs.Internal.FirstEntry.{entry_of_option}
use Rattle.jslit.proofs.QuickAnswers.{quick_judged}
use Rattle.jslit.proofs.Statuses.{has_begun}
use Rattle.lit_report.proofs.ReportEntries.{among_all}

abbrev OneOutcome : Type 0
OneOutcome = (t : Litmus) (n : ℕ) (some other : List ℕ) → IsLitmus t → Gives t n some → Gives t n other → some ≡ other

alone : (n m : ℕ) → IsTrue (in_range n (n + 1) m) → m ≡ n
alone n m is = grind (arith, nat_tests)

itself : (n : ℕ) → IsTrue (in_range n (n + 1) n)
itself n = grind (arith, nat_tests)

-- the report of the first choice of a class alone
pub found_is : OneOutcome → (t : Litmus) (class : Class) (n : ℕ) (report : Report) → IsLitmus t → IsFirstOf t class (in_range 0 (length (choices_of t))) n
    → IsReport t (in_range n (n + 1)) report → IsFirstFound t class (Some report)
found_is one t class n report litmus first reported =
    let found = reported.listed.whole n first.gives.outcome (itself n) first.gives.gives in
    let some : 0 < length report.entries = omega (arith, slice_get_within report.entries found.0 found.1 found.2) in
    let entry = entry_at report 0 in
    let is = reported.listed.each 0 entry (slice_get-get_or report.entries 0 _ some) in
    let same : entry.choice ≡ n = alone n entry.choice is.among in
    let there : IsFirstOf t class (in_range 0 (length (choices_of t))) entry.choice = subst (λ (m : ℕ). IsFirstOf t class (in_range 0 (length (choices_of t))) m) (sym same) first in
    record {
      entry = record { some = some; known = among_all (length (choices_of t)) entry.choice there.among; gives = is.gives; least_order = is.least_order };
      first = record { first = there; gives = is.gives; only = λ o g. one t entry.choice o entry.outcome litmus g is.gives; least_order = is.least_order };
    }

some_of : (first : Option Report) → is_some (entry_of_option first) ≡ is_some first
some_of None = refl
some_of (Some report) = refl

-- the quick report of both
pub quick_report_is : (t : Litmus) (met unmet : Option Report) (some other : Bool) (verdict : Verdict) → IsFirstFound t Met met → IsFirstFound t Unmet unmet
    → some ≡ is_some met → other ≡ is_some unmet → verdict ≡ verdict_of some other → IsQuickReportOf t (quick_text t (entry_of_option met) (entry_of_option unmet) verdict)
quick_report_is t met unmet some other verdict p q first second is =
    let same : verdict ≡ verdict_of (is_some (entry_of_option met)) (is_some (entry_of_option unmet)) =
    is ∙ ap (λ (b : Bool). verdict_of b other) (first ∙ sym (some_of met)) ∙ ap (λ (b : Bool). verdict_of (is_some (entry_of_option met)) b) (second ∙ sym (some_of unmet)) in
    record {
      met = entry_of_option met;
      unmet = entry_of_option unmet;
      first_met = p.first;
      first_unmet = q.first;
      judged = λ report reported. quick_judged t report reported (entry_of_option met) (entry_of_option unmet) p.first q.first;
      is = ap (quick_text t (entry_of_option met) (entry_of_option unmet)) same;
    }

-- the whole report
pub report_is : (t : Litmus) (report : Report) (verdict : Verdict) → IsReport t (in_range 0 (length (choices_of t))) report → IsComplete t report → IsVerdict t report verdict → IsReportOf t (report_text t report verdict)
report_is t report verdict reported complete judged = record { report = report; reported = reported; complete = complete; verdict = verdict; judged = judged; is = refl }

-- a beginning of the test's answer is one of the text's
pub begun_on : (quick : Bool) (text : List ℕ) (t plan : Litmus) (old new : Option (List ℕ)) → Spells text t
    → ((fault : PlanFault) → ¬ IsRefusal t fault) → plan ≡ t
    → HasWrittenSome quick plan old new → HasBegun quick text old new
begun_on quick text t plan old new spelled planned same some =
    has_begun (IsAnswerOn quick text) old new some.answer (record {
      test = t;
      spelled = spelled;
      planned = planned;
      of_test = subst (λ (u : Litmus). IsAnswerOf quick u some.answer) same some.of_test;
    }) some.begun

-- and the answer that was written is one of the text's
pub reported_on : {X E : Type 0} (r : Result X E) (quick : Bool) (text : List ℕ) (t plan : Litmus) (old new : Option (List ℕ))
    → Spells text t → ((fault : PlanFault) → ¬ IsRefusal t fault) → plan ≡ t
    → OnOk r (HasWritten quick plan old new) → OnOk r (HasReported quick text old new)
reported_on (Ok x) quick text t plan old new spelled planned same some = record {
  answer = some.answer;
  on = record {
    test = t;
    spelled = spelled;
    planned = planned;
    of_test = subst (λ (u : Litmus). IsAnswerOf quick u some.answer) same some.of_test;
  };
  written = some.written;
}
reported_on (Err e) quick text t plan old new spelled planned same some = tt
