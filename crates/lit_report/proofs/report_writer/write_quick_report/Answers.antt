use Rattle.lit_report.specs.ReportText.{quick_text}
use Rattle.lit_report.specs.Internal.FirstEntry.{entry_of_option}
use Rattle.lit_report.specs.Writing.{HasPut, writing_of}
use Rattle.lit_report.proofs.ReportLines.{quick_is}
use Rattle.lit_report.proofs.Putting.{HasPut-then, HasPut-is, finished, stopped}
use Rattle.lit_report.proofs.report_writer.write_quick_report.Goals as goal

pub returns-clause-written : goal.returns-clause-written
returns-clause-written g c =
    let put : HasPut (writing_of g.W.Write.contents c.args.output.now c.new-buffer.result) (writing_of g.W.Write.contents c.put_verdict.new.output c.put_verdict.new.buffer) (quick_text c.args.plan.now (entry_of_option c.args.met.now) (entry_of_option c.args.unmet.now) c.args.verdict) =
    HasPut-is _ _ _ _ (HasPut-then _ _ _ _ _ (HasPut-then _ _ _ _ _ (HasPut-then _ _ _ _ _ c.put_head.ensures c.put_class.ensures) c.put_class-2.ensures) c.put_verdict.ensures) (quick_is c.args.plan.now c.test.result.now (entry_of_option c.args.met.now) (entry_of_option c.args.unmet.now) c.args.verdict c.test.ensures.value) in
    finished c.finish.result _ _ _ _ _ put c.new-buffer.ensures.empty c.new-buffer.ensures.going c.finish.ensures.written

pub returns-clause-begun : goal.returns-clause-begun
returns-clause-begun g c =
    let put : HasPut (writing_of g.W.Write.contents c.args.output.now c.new-buffer.result) (writing_of g.W.Write.contents c.put_verdict.new.output c.put_verdict.new.buffer) (quick_text c.args.plan.now (entry_of_option c.args.met.now) (entry_of_option c.args.unmet.now) c.args.verdict) =
    HasPut-is _ _ _ _ (HasPut-then _ _ _ _ _ (HasPut-then _ _ _ _ _ (HasPut-then _ _ _ _ _ c.put_head.ensures c.put_class.ensures) c.put_class-2.ensures) c.put_verdict.ensures) (quick_is c.args.plan.now c.test.result.now (entry_of_option c.args.met.now) (entry_of_option c.args.unmet.now) c.args.verdict c.test.ensures.value) in
    stopped c.finish.result _ _ _ _ _ put c.new-buffer.ensures.empty c.new-buffer.ensures.going c.finish.ensures.failed
