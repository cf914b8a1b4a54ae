use Rattle.std.proofs.Common.{refl, rules}
use Rattle.jslit.specs.Answer.{IsAnswerOn, IsFaultOn}
use Rattle.jslit.specs.declared.fault.RunFault.TheVariants as faults
use Rattle.jslit.proofs.Running.{unread}
use Rattle.jslit.proofs.engine.run.Goals as goal

pub returns-in_err-passes : goal.returns-in_err-passes
returns-in_err-passes g c =
    unread g.R.Read.remaining g.W.Write.contents (IsAnswerOn c.args.options.quick) IsFaultOn (λ _. tt) (λ _. tt) c.from_residual.result
    faults.OutOfMemory c.args.input.now c.args.input.now c.args.output.now c.from_residual.ensures.1 refl (search rules)
