use Rattle.lit_report.proofs.Lines.{names_more, names_end}
use Rattle.lit_report.proofs.Putting.{puts_more, puts_end}
use Rattle.lit_report.proofs.events.put_events.Goals as goal

pub loop-number-preserved : goal.loop-number-preserved
loop-number-preserved g c =
    puts_more _ _ _ _ _ _ _ c.loop-number.invariant c.put_event.ensures (names_more c.args.test.now c.args.events.now c.args.numbers.now c.loop-number.number-index 0 _ c.loop-number-test.true (c.requires.known c.loop-number.number-index 0 c.loop-number-test.true))

pub returns : goal.returns
returns g c = puts_end _ _ _ _ c.loop-number.invariant (names_end c.args.test.now c.args.events.now c.args.numbers.now c.loop-number.number-index c.loop-number-test.false)
