use Rattle.std.proofs.Common.{arith, inl, inr, refl, subst, sym}
use Rattle.lit_reason.specs.Explained.{IsFaultOn}
use Rattle.jslit.specs.declared.fault.RunFault.TheVariants as faults
use Rattle.jslit_why.proofs.PrintedLemmas.{begun, explained}
use Rattle.jslit_why.specs.Printed.{HasBegun}
use Rattle.jslit_why.proofs.command.answer_text.Goals as goal

pub returns-then-not-put-clause-begun : goal.returns-then-not-put-clause-begun
returns-then-not-put-clause-begun g c = λ four.
    subst (HasBegun g.W.Write.contents c.args.text.now c.args.asked.now c.args.output.now)
    (sym (c.say.ensures.unchanged (λ one. absurd (omega (arith, one, four)))))
    (begun g.W.Write.contents c.args.text.now c.args.asked.now c.in-Ok.answer c.in-Ok.answer.found c.deref.result.now
    c.args.output.now c.put.new.output c.in-Ok.ensures.answered refl c.deref.ensures.value (c.put.ensures.begun c.if-not-put.true))

pub returns-then-answer-clause-answered : goal.returns-then-answer-clause-answered
returns-then-answer-clause-answered g c = λ zero.
    explained g.W.Write.contents c.args.text.now c.args.asked.now c.in-Ok.answer _ c.deref.result.now
    c.args.output.now c.put.new.output c.in-Ok.ensures.answered c.if-answer.true c.deref.ensures.value (c.put.ensures.written c.if-not-put.false)

pub returns-in-Ok-clause-refused : goal.returns-in-Ok-clause-refused
returns-in-Ok-clause-refused g c = λ one.
    inl (explained g.W.Write.contents c.args.text.now c.args.asked.now c.in-Ok.answer _ c.deref.result.now
    c.args.output.now c.put.new.output c.in-Ok.ensures.answered c.if-answer.false c.deref.ensures.value (c.put.ensures.written c.if-not-put.false))

pub returns-in-Err-Read-clause-refused : goal.returns-in-Err-Read-clause-refused
returns-in-Err-Read-clause-refused g c = λ one.
    let said = c.say-in-Err-Read.ensures.refused one in
    inr (record { fault = faults.Read c.in-Err-Read.fault; refusal = refl; on = subst (IsFaultOn c.args.text.now c.args.asked.now) c.in-Err-Read.field-0-is c.in-Err-Read.ensures.fault; written = said.written; begun = said.begun })

pub returns-in-Err-Plan-clause-refused : goal.returns-in-Err-Plan-clause-refused
returns-in-Err-Plan-clause-refused g c = λ one.
    let said = c.say-in-Err-Plan.ensures.refused one in
    inr (record { fault = faults.Plan c.in-Err-Plan.fault; refusal = refl; on = subst (IsFaultOn c.args.text.now c.args.asked.now) c.in-Err-Plan.field-0-is c.in-Err-Plan.ensures.fault; written = said.written; begun = said.begun })
