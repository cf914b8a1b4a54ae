use Rattle.lit_reason.proofs.SubjectLemmas.{text_on}
use Rattle.lit_reason.proofs.explanation.answer_of.Goals.{then-asked+in_ok-text, else-asked+in_ok-text-2}
use Rattle.lit_reason.proofs.explanation.answer_of.Goals as goal

pub returns-clause-text : goal.returns-clause-text
returns-clause-text c = λ words.
    let t = c.args.plan.now in
    let question = c.args.asked.now.question in
    elim c.if-asked.branch [
      | then-asked+in_ok-text w ↦ absurd (let is = words in let other = w.if-asked.true in cc)
      | else-asked+in_ok-text-2 w ↦
          rw w.text-is (text_on t question c.in_ok-subject.subject _ c.in_ok-subject.ensures.of w.in_ok-text-2.ensures)
    ]
