use Rattle.std.proofs.Common.{drop}
use Rattle.lit_report.specs.EntryText.{names_text}
use Rattle.lit_report.specs.Writing.{writing_of}
use Rattle.lit_report.proofs.Putting.{PutsOf}
use Rattle.lit_report.proofs.events.put_events.Given as goal

abbrev pub invariant-loop-number : goal.invariant-loop-number
invariant-loop-number g l = PutsOf (writing_of g.W.Write.contents l.fn.output l.fn.buffer) (writing_of g.W.Write.contents l.output l.buffer) (names_text l.test l.events (drop l.number-index l.numbers)) (names_text l.test l.events l.numbers)
