use Rattle.std.proofs.Common.{rules}
use Rattle.lit_report.proofs.Written.{Begun-more}
use Rattle.lit_report.proofs.buffer.write_bytes.Goals as goal

pub loop-rest-preserved : goal.loop-rest-preserved
loop-rest-preserved g c = record {
  begun = rw c.split_at.ensures.back (Begun-more _ _ _ _ _ c.in-Ok.taken c.loop-rest.invariant.begun c.in-Ok.ensures.bytes);
  none_failed = let a = c.loop-rest.invariant.none_failed in let e = c.in-Ok.ensures.counted in search rules;
}
