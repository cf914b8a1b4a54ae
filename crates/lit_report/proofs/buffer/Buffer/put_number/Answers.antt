use Rattle.std.proofs.Common.{sym}
use Rattle.std.proofs.lemmas.Fmt.{decimal_digit}
use Rattle.lit_report.proofs.Putting.{HasPut-is}
use Rattle.lit_report.proofs.buffer.Buffer.put_number.Goals as goal

pub returns-then-number-lt10 : goal.returns-then-number-lt10
returns-then-number-lt10 g c = HasPut-is _ _ _ _ c.put_byte.ensures (sym (decimal_digit c.args.number c.if-number-lt10.true))
