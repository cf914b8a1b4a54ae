use Rattle.std.proofs.Common.{arith}
use Rattle.std.proofs.lemmas.List.{length-take}
use Rattle.jslit.proofs.InputText.{input_full, input_at_end, ConsumesBeginning-then}
use Rattle.jslit.proofs.reading.read_text.Goals as goal

pub returns-in_err-read_some-clause-consumed : goal.returns-in_err-read_some-clause-consumed
returns-in_err-read_some-clause-consumed g c =
    ConsumesBeginning-then _ _ _ _ _ _ c.reading.invariant.consumed c.in_err-read_some.ensures.consumed
    (omega (arith, length-take c.min-room.result c.reading.chunk, c.min-room.ensures, c.len-in-reading.ensures, c.len.ensures, c.reading-test.true, c.reading.invariant.few))

pub returns-then-branch-eq0-clause-text : goal.returns-then-branch-eq0-clause-text
returns-then-branch-eq0-clause-text g c =
    input_at_end _ _ _ _ _ _ c.reading.invariant.consumed c.in_ok-read_some.ensures.bytes c.if-branch-eq0.true c.reading.invariant.few

pub returns-clause-text : goal.returns-clause-text
returns-clause-text g c = input_full _ _ _ c.reading.invariant.consumed (omega (arith, c.reading.invariant.few, c.reading-test.false, c.len.ensures))
