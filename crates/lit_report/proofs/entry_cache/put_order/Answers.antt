use Rattle.lit_report.proofs.Putting.{HasPut-then}
use Rattle.lit_report.proofs.entry_cache.put_order.Goals as goal

pub returns : goal.returns
returns g c = HasPut-then _ _ _ _ _ (HasPut-then _ _ _ _ _ c.put.ensures c.put_events.ensures) c.put_byte.ensures
