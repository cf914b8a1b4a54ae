use Rattle.std.proofs.Common.{Bool, OnOk, IsErrOf, sym, subst}
use Rattle.jslit.specs.declared.fault.RunFault.TheVariants.{OutputFailed}
use Rattle.lit_report.specs.Counted.{device_of}
use Rattle.jslit.specs.Internal.Answering.{HasWritten, HasWrittenSome}
use Rattle.jslit.proofs.engine.alone.report_alone.Goals as goal

pub returns-then-quick-clause-written : goal.returns-then-quick-clause-written
returns-then-quick-clause-written g c =
    subst (λ (b : Bool). OnOk c.quick_report.result (HasWritten b c.args.plan.now (g.W.Write.contents (device_of c.args.output.now))
    (g.W.Write.contents (device_of c.quick_report.new.output)))) (sym c.if-quick.true) c.quick_report.ensures.written

pub returns-then-quick-clause-begun : goal.returns-then-quick-clause-begun
returns-then-quick-clause-begun g c =
    subst (λ (b : Bool). IsErrOf c.quick_report.result OutputFailed → HasWrittenSome b c.args.plan.now
    (g.W.Write.contents (device_of c.args.output.now))
    (g.W.Write.contents (device_of c.quick_report.new.output))) (sym c.if-quick.true) c.quick_report.ensures.begun

pub returns-clause-written : goal.returns-clause-written
returns-clause-written g c =
    subst (λ (b : Bool). OnOk c.report.result (HasWritten b c.args.plan.now (g.W.Write.contents (device_of c.args.output.now))
    (g.W.Write.contents (device_of c.report.new.output)))) (sym c.if-quick.false) c.report.ensures.written

pub returns-clause-begun : goal.returns-clause-begun
returns-clause-begun g c =
    subst (λ (b : Bool). IsErrOf c.report.result OutputFailed → HasWrittenSome b c.args.plan.now
    (g.W.Write.contents (device_of c.args.output.now))
    (g.W.Write.contents (device_of c.report.new.output))) (sym c.if-quick.false) c.report.ensures.begun
