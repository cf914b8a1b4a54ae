use Rattle.std.proofs.Common.{sym, subst}
use Rattle.std.specs.Io.KnownBytes.{Consumes}
use Rattle.jslit.specs.Answer.{IsAnswerOn, IsFaultOn}
use Rattle.lit_report.specs.Counted.{device_of}
use Rattle.jslit.specs.Devices.{IsInputText}
use Rattle.jslit.proofs.Running.{ran, unread}
use Rattle.jslit.proofs.engine.run_watched.Goals as goal

pub returns-in_err-text : goal.returns-in_err-text
returns-in_err-text g c =
    unread g.R.Read.remaining g.W.Write.contents (IsAnswerOn c.args.options.quick) IsFaultOn (λ _. tt) (λ _. tt) c.from_residual.result c.in_err-text.field-0.0
    c.args.input.now c.read_text.new.input c.args.output.now c.from_residual.ensures.1 c.in_err-text.ensures.failed c.read_text.ensures.consumed

pub returns : goal.returns
returns g c =
    let old = g.R.Read.remaining (device_of c.args.input.now) in
    let new = g.R.Read.remaining (device_of c.read_text.new.input) in
    ran g.R.Read.remaining g.W.Write.contents (IsAnswerOn c.args.options.quick) IsFaultOn c.deref.result.now c.args.input.now c.read_text.new.input
    c.args.output.now c.answer.new.output (subst (IsInputText old) (sym c.deref.ensures.value) c.in_ok-text.ensures.text)
    (subst (Consumes old new) (sym c.deref.ensures.value) c.in_ok-text.ensures.whole) c.in_ok-text.ensures.not_failed c.read_text.ensures.consumed
    c.answer.result c.requires.output c.answer.ensures.reported c.answer.ensures.not_failed c.answer.ensures.begun c.answer.ensures.failed
    c.answer.ensures.unwritten c.answer.ensures.refused c.answer.ensures.of_text
