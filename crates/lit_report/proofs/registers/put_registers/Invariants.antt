use Rattle.std.proofs.Common.{drop}
use Rattle.lit_report.specs.EntryText.{registers_text}
use Rattle.lit_report.specs.Writing.{writing_of}
use Rattle.lit_report.proofs.Putting.{PutsOf}
use Rattle.lit_report.proofs.registers.put_registers.Given as goal

abbrev pub invariant-loop-place : goal.invariant-loop-place
invariant-loop-place g l =
    PutsOf (writing_of g.W.Write.contents l.fn.output l.fn.buffer) (writing_of g.W.Write.contents l.output l.buffer) (registers_text l.test (drop l.place l.names) (drop l.place l.values)) (registers_text l.test l.names l.values)
