use Rattle.std.specs.Prelude.{codes}
use Rattle.lit_report.proofs.Putting.{HasPut-then, HasPut-is}
use Rattle.lit_report.proofs.Lines.{name_is, short_name_is}
use Rattle.lit_report.proofs.registers.put_register_name.Goals as goal

pub returns-then-register-lt10 : goal.returns-then-register-lt10
returns-then-register-lt10 g c = HasPut-is _ _ _ _ (HasPut-then _ _ _ _ _ c.put_four.ensures c.put_byte.ensures) (short_name_is c.args.agent.now (codes ".r") c.args.register _ c.if-agent-eq1.true c.if-register-lt10.true)

pub returns : goal.returns
returns g c = HasPut-is _ _ _ _ (HasPut-then _ _ _ _ _ (HasPut-then _ _ _ _ _ (HasPut-then _ _ _ _ _ c.put_byte-2.ensures c.put.ensures) c.put-2.ensures) c.put_number.ensures) (name_is c.args.agent.now _ _)
