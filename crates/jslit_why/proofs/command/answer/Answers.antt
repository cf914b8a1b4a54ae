use Rattle.std.proofs.Common.{List, arith, inl, inr, subst, ℕ}
use Rattle.lit_report.specs.Counted.{failures_of}
use Rattle.lit_reason.specs.Explained.{HasOtherCondition}
use Rattle.jslit_why.proofs.PrintedLemmas.{failed_status}
use Rattle.jslit_why.specs.Printed.{HasBegun, HasRefused}
use Rattle.jslit_why.proofs.command.answer.Goals as goal

pub returns-in-Ok-clause-refused : goal.returns-in-Ok-clause-refused
returns-in-Ok-clause-refused g c = λ one. record {
  text = c.in-Ok.text.items;
  is_input = c.in-Ok.ensures.text;
  holds = subst (λ (t : List ℕ). HasRefused g.W.Write.contents t c.args.asked.now c.args.output.now c.answer_text.new.output)
      c.deref.ensures.value (c.answer_text.ensures.refused one);
}

pub returns-in-Ok-clause-other : goal.returns-in-Ok-clause-other
returns-in-Ok-clause-other g c = λ two. let both = c.answer_text.ensures.other two in (
  record {
    text = c.in-Ok.text.items;
    is_input = c.in-Ok.ensures.text;
    holds = subst (λ (t : List ℕ). HasOtherCondition t c.args.asked.now) c.deref.ensures.value both.0;
  },
  both.1,
)

pub returns-in-Ok-clause-begun : goal.returns-in-Ok-clause-begun
returns-in-Ok-clause-begun g c = λ four. inr (record {
  text = c.in-Ok.text.items;
  is_input = c.in-Ok.ensures.text;
  holds = subst (λ (t : List ℕ). HasBegun g.W.Write.contents t c.args.asked.now c.args.output.now c.answer_text.new.output)
      c.deref.ensures.value (c.answer_text.ensures.begun four);
})

pub returns-in-Err-clause-answered : goal.returns-in-Err-clause-answered
returns-in-Err-clause-answered g c = λ zero.
    absurd (omega (arith, zero, c.say.ensures.status, failed_status (failures_of c.args.input.now) (failures_of c.read_text.new.input) c.in-Err.fault c.in-Err.ensures.failed))

pub returns-in-Err-clause-refused : goal.returns-in-Err-clause-refused
returns-in-Err-clause-refused g c = λ one.
    absurd (omega (arith, one, c.say.ensures.status, failed_status (failures_of c.args.input.now) (failures_of c.read_text.new.input) c.in-Err.fault c.in-Err.ensures.failed))

pub returns-in-Err-clause-other : goal.returns-in-Err-clause-other
returns-in-Err-clause-other g c = λ two.
    absurd (omega (arith, two, c.say.ensures.status, failed_status (failures_of c.args.input.now) (failures_of c.read_text.new.input) c.in-Err.fault c.in-Err.ensures.failed))

pub returns-in-Err-clause-begun : goal.returns-in-Err-clause-begun
returns-in-Err-clause-begun g c = λ four. inl (c.say.ensures.unchanged (λ one. absurd (omega (arith, one, four))))
