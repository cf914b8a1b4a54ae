use Rattle.lit_report.proofs.Putting.{HasPut-then}
use Rattle.lit_report.proofs.events.put_source_head.Goals as goal

pub returns : goal.returns
returns g c = HasPut-then _ _ _ _ _ c.put.ensures c.put_event.ensures
