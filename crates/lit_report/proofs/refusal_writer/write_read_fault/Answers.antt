use Rattle.std.proofs.Common.{◌≡◌, ◌++◌, List, ℕ, append_assoc, codes}
use Rattle.std.specs.Fmt.{decimal}
use Rattle.lit_read.specs.FaultNames.{kind_text}
use Rattle.lit_report.specs.RefusalText.{read_fault_line}
use Rattle.lit_report.specs.Writing.{HasPut, writing_of}
use Rattle.lit_report.proofs.Putting.{HasPut-then, HasPut-is, finished, stopped}
use Rattle.lit_report.proofs.refusal_writer.write_read_fault.Goals as goal

joined : (word kind between number end : List ℕ) → (((word ++ kind) ++ between) ++ number) ++ end ≡ (word ++ kind ++ between ++ number) ++ end
joined word kind between number end = simp append_assoc

pub returns-clause-written : goal.returns-clause-written
returns-clause-written g c =
    let put : HasPut (writing_of g.W.Write.contents c.args.output.now c.new-buffer.result) (writing_of g.W.Write.contents c.put-4.new.output c.put-4.new.self) (read_fault_line c.args.fault) =
    HasPut-is _ _ _ _ (HasPut-then _ _ _ _ _ (HasPut-then _ _ _ _ _ (HasPut-then _ _ _ _ _ (HasPut-then _ _ _ _ _ c.put.ensures c.put-2.ensures) c.put-3.ensures) c.put_number.ensures) c.put-4.ensures) (rw (c.as_bytes.ensures.value, c.as_str.ensures) (joined (codes "refused ") (kind_text c.args.fault.kind) (codes " line ") (decimal c.args.fault.line) (codes "\n"))) in
    finished c.finish.result _ _ _ _ _ put c.new-buffer.ensures.empty c.new-buffer.ensures.going c.finish.ensures.written

pub returns-clause-begun : goal.returns-clause-begun
returns-clause-begun g c =
    let put : HasPut (writing_of g.W.Write.contents c.args.output.now c.new-buffer.result) (writing_of g.W.Write.contents c.put-4.new.output c.put-4.new.self) (read_fault_line c.args.fault) =
    HasPut-is _ _ _ _ (HasPut-then _ _ _ _ _ (HasPut-then _ _ _ _ _ (HasPut-then _ _ _ _ _ (HasPut-then _ _ _ _ _ c.put.ensures c.put-2.ensures) c.put-3.ensures) c.put_number.ensures) c.put-4.ensures) (rw (c.as_bytes.ensures.value, c.as_str.ensures) (joined (codes "refused ") (kind_text c.args.fault.kind) (codes " line ") (decimal c.args.fault.line) (codes "\n"))) in
    stopped c.finish.result _ _ _ _ _ put c.new-buffer.ensures.empty c.new-buffer.ensures.going c.finish.ensures.failed
