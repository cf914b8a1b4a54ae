-- A text has one answer.
use Rattle.std.proofs.Common.{◌≡◌, ℕ, Bool, true, false, Option, List, [], length, get_or, refl, sym, ap, subst, ◌∙◌}
use Rattle.std.specs.Prelude.{is_some}
use Rattle.lit_syntax.specs.Syntax.{Litmus}
use Rattle.lit_read.specs.Spelling.{Spells}
use Rattle.lit_paths.specs.Choice.{choices_of}
use Rattle.lit_paths.specs.Outcome.{meets}
use Rattle.lit_valid.specs.declared.class.Class.TheVariants.{Met, Unmet}
use Rattle.lit_search.specs.Report.{Entry, Report, IsReport, in_range}
use Rattle.lit_report.specs.declared.verdict.Verdict.{Verdict}
use Rattle.lit_report.specs.declared.verdict.Verdict.TheVariants.{Always, Sometimes, Never}
use Rattle.lit_report.specs.ReportText.{quick_text, report_text}
use Rattle.lit_report.specs.Verdict.{AllMeet, IsVerdict, verdict_of}
use Rattle.jslit.specs.Answer.{IsAnswerOn, IsQuickReportOf, IsReportOf}
use Rattle.jslit.specs.Internal.Answering.{IsAnswerOf}
use Rattle.jslit.proofs.QuickAnswers.{one_first}

never_or_always : (t : Litmus) (report : Report) → AllMeet t report false → IsVerdict t report Always → ⊥
never_or_always t report none all =
    let first : Entry = get_or report.entries 0 (record { outcome = []; choice = 0; order = [] }) in
    let fails : meets t first.outcome ≡ false = none 0 _ all.0 in
    let passes : meets t first.outcome ≡ true = all.1 0 _ all.0 in
    absurd (let bad : true ≡ false = sym passes ∙ fails in cc)

one_verdict : (t : Litmus) (report : Report) (v w : Verdict) → IsVerdict t report v → IsVerdict t report w → v ≡ w
one_verdict t report Never Never p q = refl
one_verdict t report Never Always p q = absurd (never_or_always t report p q)
one_verdict t report Never Sometimes p q = absurd (q.0 p)
one_verdict t report Always Never p q = absurd (never_or_always t report q p)
one_verdict t report Always Always p q = refl
one_verdict t report Always Sometimes p q = absurd (q.1 p.1)
one_verdict t report Sometimes Never p q = absurd (p.0 q)
one_verdict t report Sometimes Always p q = absurd (p.1 q.1)
one_verdict t report Sometimes Sometimes p q = refl

abbrev OneTest : List ℕ → Type 0
OneTest text = (t u : Litmus) → Spells text t → Spells text u → t ≡ u

abbrev OneReport : Type 0
OneReport = (t : Litmus) (numbers : ℕ → Bool) (a b : Report) → IsReport t numbers a → IsReport t numbers b → a ≡ b

one_report_of : OneReport → (t : Litmus) (answer other : List ℕ) → IsReportOf t answer → IsReportOf t other → answer ≡ other
one_report_of one_report t answer other a b =
    let reports : b.report ≡ a.report = one_report t (in_range 0 (length (choices_of t))) b.report a.report b.reported a.reported in
    let W : Report → Type 0 = λ r. IsVerdict t r b.verdict in
    let verdicts : b.verdict ≡ a.verdict = one_verdict t a.report b.verdict a.verdict (subst W reports b.judged) a.judged in
    a.is ∙ sym (b.is ∙ ap (λ (r : Report). report_text t r b.verdict) reports ∙ ap (λ (v : Verdict). report_text t a.report v) verdicts)

one_quick_of : (t : Litmus) (answer other : List ℕ) → IsQuickReportOf t answer → IsQuickReportOf t other → answer ≡ other
one_quick_of t answer other a b =
    let met : b.met ≡ a.met = one_first t Met b.met a.met b.first_met a.first_met in
    let unmet : b.unmet ≡ a.unmet = one_first t Unmet b.unmet a.unmet b.first_unmet a.first_unmet in
    a.is
    ∙ sym (b.is
    ∙ ap (λ (e : Option Entry). quick_text t e b.unmet (verdict_of (is_some e) (is_some b.unmet))) met
    ∙ ap (λ (e : Option Entry). quick_text t a.met e (verdict_of (is_some a.met) (is_some e))) unmet)

one_of_test : OneReport → (quick : Bool) (t : Litmus) (answer other : List ℕ) → IsAnswerOf quick t answer → IsAnswerOf quick t other → answer ≡ other
one_of_test one_report true t answer other a b = one_quick_of t answer other a b
one_of_test one_report false t answer other a b = one_report_of one_report t answer other a b

pub one_answer : (quick : Bool) (text answer other : List ℕ) → OneTest text → OneReport → IsAnswerOn quick text answer → IsAnswerOn quick text other → answer ≡ other
one_answer quick text answer other one_test one_report a b =
    let tests : b.test ≡ a.test = one_test b.test a.test b.spelled a.spelled in
    one_of_test one_report quick a.test answer other a.of_test (subst (λ (t : Litmus). IsAnswerOf quick t other) tests b.of_test)
