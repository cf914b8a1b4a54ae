use Rattle.lit_report.specs.ReportText.{report_text}
use Rattle.lit_report.specs.Writing.{HasPut, writing_of}
use Rattle.lit_report.proofs.ReportLines.{whole_is}
use Rattle.lit_report.proofs.Putting.{HasPut-then, HasPut-is, finished, stopped}
use Rattle.lit_report.proofs.report_writer.write_report.Goals as goal

pub returns-clause-written : goal.returns-clause-written
returns-clause-written g c =
    let put : HasPut (writing_of g.W.Write.contents c.args.output.now c.new-buffer.result) (writing_of g.W.Write.contents c.put_race.new.output c.put_race.new.buffer) (report_text c.args.plan.now c.args.found.now c.args.verdict) =
    HasPut-is _ _ _ _ (HasPut-then _ _ _ _ _ (HasPut-then _ _ _ _ _ (HasPut-then _ _ _ _ _ (HasPut-then _ _ _ _ _ (HasPut-then _ _ _ _ _ (HasPut-then _ _ _ _ _ c.put_head.ensures c.put.ensures) c.put-2.ensures) c.put_number.ensures) c.put_byte.ensures) c.put_verdict.ensures) c.put_race.ensures) (whole_is c.args.plan.now c.test.result.now c.args.found.now c.len.result c.args.verdict c.race.result c.test.ensures.value c.len.ensures c.race.ensures) in
    finished c.finish.result _ _ _ _ _ put c.new-buffer.ensures.empty c.new-buffer.ensures.going c.finish.ensures.written

pub returns-clause-begun : goal.returns-clause-begun
returns-clause-begun g c =
    let put : HasPut (writing_of g.W.Write.contents c.args.output.now c.new-buffer.result) (writing_of g.W.Write.contents c.put_race.new.output c.put_race.new.buffer) (report_text c.args.plan.now c.args.found.now c.args.verdict) =
    HasPut-is _ _ _ _ (HasPut-then _ _ _ _ _ (HasPut-then _ _ _ _ _ (HasPut-then _ _ _ _ _ (HasPut-then _ _ _ _ _ (HasPut-then _ _ _ _ _ (HasPut-then _ _ _ _ _ c.put_head.ensures c.put.ensures) c.put-2.ensures) c.put_number.ensures) c.put_byte.ensures) c.put_verdict.ensures) c.put_race.ensures) (whole_is c.args.plan.now c.test.result.now c.args.found.now c.len.result c.args.verdict c.race.result c.test.ensures.value c.len.ensures c.race.ensures) in
    stopped c.finish.result _ _ _ _ _ put c.new-buffer.ensures.empty c.new-buffer.ensures.going c.finish.ensures.failed
