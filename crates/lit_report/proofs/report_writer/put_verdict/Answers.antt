use Rattle.std.proofs.Common.{append_assoc}
use Rattle.lit_report.proofs.Putting.{HasPut-then, HasPut-is}
use Rattle.lit_report.proofs.report_writer.put_verdict.Goals as goal

pub returns : goal.returns
returns g c = HasPut-is _ _ _ _ (HasPut-then _ _ _ _ _ (HasPut-then _ _ _ _ _ c.put.ensures c.put-2.ensures) c.put_byte.ensures) (rw (c.as_bytes.ensures.value, c.as_str.ensures) (simp append_assoc))
