use Rattle.std.proofs.Common.{◌∙◌, ap}
use Rattle.lit_report.specs.ReportText.{interleaving_text, yes_or_no}
use Rattle.lit_report.specs.Writing.{HasPut, writing_of}
use Rattle.lit_report.proofs.ReportLines.{interleaving_is}
use Rattle.lit_report.proofs.Putting.{HasPut-then, HasPut-is, finished, stopped}
use Rattle.lit_report.proofs.report_writer.write_interleaving.Goals as goal

pub returns-clause-written : goal.returns-clause-written
returns-clause-written g c =
    let put : HasPut (writing_of g.W.Write.contents c.args.output.now c.new-buffer.result) (writing_of g.W.Write.contents c.put-4.new.output c.put-4.new.self) (interleaving_text c.args.test.now c.args.outcome.now) =
    HasPut-is _ _ _ _ (HasPut-then _ _ _ _ _ (HasPut-then _ _ _ _ _ (HasPut-then _ _ _ _ _ (HasPut-then _ _ _ _ _ (HasPut-then _ _ _ _ _ c.put_head.ensures c.put.ensures) c.put_registers.ensures) c.put-2.ensures) c.put-3.ensures) c.put-4.ensures)
    (interleaving_is c.args.test.now c.args.outcome.now c.as_slice.result.now c.word_for.result.now (c.as_slice.ensures.value ∙ c.written_names-names.ensures.value) (c.word_for.ensures ∙ ap yes_or_no c.meets.ensures)) in
    finished c.finish.result _ _ _ _ _ put c.new-buffer.ensures.empty c.new-buffer.ensures.going c.finish.ensures.written

pub returns-clause-begun : goal.returns-clause-begun
returns-clause-begun g c =
    let put : HasPut (writing_of g.W.Write.contents c.args.output.now c.new-buffer.result) (writing_of g.W.Write.contents c.put-4.new.output c.put-4.new.self) (interleaving_text c.args.test.now c.args.outcome.now) =
    HasPut-is _ _ _ _ (HasPut-then _ _ _ _ _ (HasPut-then _ _ _ _ _ (HasPut-then _ _ _ _ _ (HasPut-then _ _ _ _ _ (HasPut-then _ _ _ _ _ c.put_head.ensures c.put.ensures) c.put_registers.ensures) c.put-2.ensures) c.put-3.ensures) c.put-4.ensures)
    (interleaving_is c.args.test.now c.args.outcome.now c.as_slice.result.now c.word_for.result.now (c.as_slice.ensures.value ∙ c.written_names-names.ensures.value) (c.word_for.ensures ∙ ap yes_or_no c.meets.ensures)) in
    stopped c.finish.result _ _ _ _ _ put c.new-buffer.ensures.empty c.new-buffer.ensures.going c.finish.ensures.failed
