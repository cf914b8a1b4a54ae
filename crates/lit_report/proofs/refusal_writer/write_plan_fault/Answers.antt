use Rattle.std.proofs.Common.{append_assoc}
use Rattle.lit_report.specs.RefusalText.{plan_fault_line}
use Rattle.lit_report.specs.Writing.{HasPut, writing_of}
use Rattle.lit_report.proofs.Putting.{HasPut-then, HasPut-is, finished, stopped}
use Rattle.lit_report.proofs.refusal_writer.write_plan_fault.Goals as goal

pub returns-clause-written : goal.returns-clause-written
returns-clause-written g c =
    let put : HasPut (writing_of g.W.Write.contents c.args.output.now c.new-buffer.result) (writing_of g.W.Write.contents c.put-3.new.output c.put-3.new.self) (plan_fault_line c.args.fault) =
    HasPut-is _ _ _ _ (HasPut-then _ _ _ _ _ (HasPut-then _ _ _ _ _ c.put.ensures c.put-2.ensures) c.put-3.ensures) (rw (c.as_bytes.ensures.value, c.as_str.ensures) (simp append_assoc)) in
    finished c.finish.result _ _ _ _ _ put c.new-buffer.ensures.empty c.new-buffer.ensures.going c.finish.ensures.written

pub returns-clause-begun : goal.returns-clause-begun
returns-clause-begun g c =
    let put : HasPut (writing_of g.W.Write.contents c.args.output.now c.new-buffer.result) (writing_of g.W.Write.contents c.put-3.new.output c.put-3.new.self) (plan_fault_line c.args.fault) =
    HasPut-is _ _ _ _ (HasPut-then _ _ _ _ _ (HasPut-then _ _ _ _ _ c.put.ensures c.put-2.ensures) c.put-3.ensures) (rw (c.as_bytes.ensures.value, c.as_str.ensures) (simp append_assoc)) in
    stopped c.finish.result _ _ _ _ _ put c.new-buffer.ensures.empty c.new-buffer.ensures.going c.finish.ensures.failed
