use Rattle.std.proofs.Common.{sym, subst}
use Rattle.std.specs.Io.KnownBytes.{Consumes}
use Rattle.jslit.specs.InterleavingAnswer.{IsInterleavingOn, IsScheduleFaultOn}
use Rattle.lit_report.specs.Counted.{device_of}
use Rattle.jslit.specs.Devices.{IsInputText}
use Rattle.jslit.proofs.Running.{ran, unread}
use Rattle.jslit.proofs.interleaving.run_schedule.Goals as goal

pub returns-in_err-text : goal.returns-in_err-text
returns-in_err-text g c =
    unread g.R.Read.remaining g.W.Write.contents (IsInterleavingOn c.args.schedule.now) (IsScheduleFaultOn c.args.schedule.now) (λ _. tt) (λ _. tt) c.from_residual.result c.in_err-text.field-0.0
    c.args.input.now c.read_text.new.input c.args.output.now c.from_residual.ensures.1 c.in_err-text.ensures.failed c.read_text.ensures.consumed

pub returns : goal.returns
returns g c =
    let old = g.R.Read.remaining (device_of c.args.input.now) in
    let new = g.R.Read.remaining (device_of c.read_text.new.input) in
    ran g.R.Read.remaining g.W.Write.contents (IsInterleavingOn c.args.schedule.now) (IsScheduleFaultOn c.args.schedule.now) c.deref.result.now c.args.input.now c.read_text.new.input
    c.args.output.now c.answer_schedule.new.output (subst (IsInputText old) (sym c.deref.ensures.value) c.in_ok-text.ensures.text)
    (subst (Consumes old new) (sym c.deref.ensures.value) c.in_ok-text.ensures.whole) c.in_ok-text.ensures.not_failed c.read_text.ensures.consumed
    c.answer_schedule.result c.requires.output c.answer_schedule.ensures.answered c.answer_schedule.ensures.not_failed c.answer_schedule.ensures.begun c.answer_schedule.ensures.failed
    c.answer_schedule.ensures.unwritten c.answer_schedule.ensures.refused c.answer_schedule.ensures.of_text
