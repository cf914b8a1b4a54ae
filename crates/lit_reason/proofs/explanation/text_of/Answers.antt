use Rattle.std.proofs.Common.{◌≡◌, ◌++◌, subst, sym}
use Rattle.std.specs.Prelude.{IfOk}
use Rattle.std.proofs.lemmas.Result.{IfOk-weaker}
use Rattle.lit_reason.specs.AnswerText.{HasBehind, IsRaceText, test_line}
use Rattle.lit_reason.specs.Internal.Subjects.{IsSubjectText}
use Rattle.lit_reason.specs.declared.explanation.Subject.{Subject}
use Rattle.lit_reason.proofs.explanation.text_of.Goals as goal

pub returns-in_ok-rest-in-Race : goal.returns-in_ok-rest-in-Race
returns-in_ok-rest-in-Race c =
    let t = c.args.plan.now in
    let told : IsRaceText t c.deref-in-Race.result.now = rw c.deref-in-Race.ensures.value c.in_ok-rest-in-Race.ensures in
    subst (λ (s : Subject). IfOk c.with_test_line-in-Race.result (λ text. IsSubjectText t s text.items)) (sym c.in-Race.is)
    (IfOk-weaker c.with_test_line-in-Race.result (λ text. text.items ≡ test_line t ++ c.deref-in-Race.result.now)
    (λ text. HasBehind (test_line t) (IsRaceText t) text.items) (λ text is. (c.deref-in-Race.result.now, is, told)) c.with_test_line-in-Race.ensures)
