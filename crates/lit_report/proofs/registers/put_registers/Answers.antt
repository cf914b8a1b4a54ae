use Rattle.std.proofs.Common.{arith}
use Rattle.lit_report.proofs.RegisterLemmas.{registers_more, registers_end}
use Rattle.lit_report.proofs.Putting.{puts_more, puts_end}
use Rattle.lit_report.proofs.registers.put_registers.Goals as goal

pub loop-place-preserved : goal.loop-place-preserved
loop-place-preserved g c = puts_more _ _ _ _ _ _ _ c.loop-place.invariant c.put_register.ensures (registers_more c.args.test.now c.args.names.now c.args.values.now c.loop-place.place _ _ (omega arith) (omega arith))

pub returns : goal.returns
returns g c = puts_end _ _ _ _ c.loop-place.invariant (registers_end c.args.test.now c.args.names.now c.args.values.now c.loop-place.place (omega arith))
