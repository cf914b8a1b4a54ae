use Rattle.std.proofs.Common.{append_assoc}
use Rattle.lit_report.proofs.Putting.{HasPut-then, HasPut-is}
use Rattle.lit_report.proofs.events.put_source_line.Goals as goal

pub returns : goal.returns
returns g c =
    HasPut-is _ _ _ _ (HasPut-then _ _ _ _ _ (HasPut-then _ _ _ _ _ c.put_source_head.ensures c.put_events.ensures) c.put_byte.ensures) (simp append_assoc)
