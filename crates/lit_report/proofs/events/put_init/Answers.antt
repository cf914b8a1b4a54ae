use Rattle.lit_report.proofs.Putting.{HasPut-then, HasPut-is}
use Rattle.lit_report.proofs.Lines.{short_init_is}
use Rattle.lit_report.proofs.events.put_init.Goals as goal

pub returns-then-byte-lt10 : goal.returns-then-byte-lt10
returns-then-byte-lt10 g c = HasPut-is _ _ _ _ (HasPut-then _ _ _ _ _ c.put.ensures c.put_four.ensures) (short_init_is c.args.byte c.if-byte-lt10.true)

pub returns : goal.returns
returns g c = HasPut-then _ _ _ _ _ (HasPut-then _ _ _ _ _ c.put-2.ensures c.put_number.ensures) c.put_byte.ensures
