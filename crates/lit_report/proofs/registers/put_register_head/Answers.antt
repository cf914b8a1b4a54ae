use Rattle.lit_report.proofs.Putting.{HasPut-then, HasPut-is}
use Rattle.lit_report.proofs.Lines.{register_head_is}
use Rattle.lit_report.proofs.registers.put_register_head.Goals as goal

pub returns : goal.returns
returns g c =
    HasPut-is _ _ _ _ (HasPut-then _ _ _ _ _ c.put_register_name.ensures c.put_byte.ensures)
    (register_head_is c.args.test.now c.args.name.0 c.args.name.1 _ _ c.agent_name.ensures c.as_bytes.ensures.value)
