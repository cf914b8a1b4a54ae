use Rattle.lit_report.proofs.Putting.{HasPut-then, HasPut-is}
use Rattle.lit_report.proofs.Lines.{name_is}
use Rattle.lit_report.proofs.events.put_long_access.Goals as goal

pub returns : goal.returns
returns g c = HasPut-is _ _ _ _ (HasPut-then _ _ _ _ _ (HasPut-then _ _ _ _ _ (HasPut-then _ _ _ _ _ c.put_byte.ensures c.put.ensures) c.put_byte-2.ensures) c.put_number.ensures) (name_is c.args.agent.now _ _)
