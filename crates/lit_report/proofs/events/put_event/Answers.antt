use Rattle.lit_report.proofs.Putting.{HasPut-is}
use Rattle.lit_report.proofs.Lines.{access_name, init_name}
use Rattle.lit_report.proofs.events.put_event.Goals as goal

pub returns-in_default : goal.returns-in_default
returns-in_default g c = HasPut-is _ _ _ _ c.put_init.ensures (init_name c.args.test.now c.args.event.now c.in_default.not-Some)

pub returns : goal.returns
returns g c = HasPut-is _ _ _ _ c.put_access.ensures (access_name c.args.test.now c.args.event.now c.in-Some.agent _ _ c.in-Some.is c.agent_name.ensures c.as_bytes.ensures.value)
