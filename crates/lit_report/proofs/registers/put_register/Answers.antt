use Rattle.lit_report.proofs.Putting.{HasPut-then, HasPut-is}
use Rattle.lit_report.proofs.RegisterLemmas.{register_is}
use Rattle.lit_report.proofs.registers.put_register.Goals as goal

pub returns : goal.returns
returns g c = HasPut-is _ _ _ _ (HasPut-then _ _ _ _ _ c.put_register_head.ensures c.put_number.ensures) (register_is c.args.test.now c.args.name c.args.value)
