use Rattle.std.proofs.Common.{◌≡◌, [], ◌∙◌}
use Rattle.lit_report.proofs.Putting.{HasPut-then, put_through}
use Rattle.lit_report.proofs.buffer.Buffer.put_after_flush.Goals as goal

pub returns : goal.returns
returns g c =
    let empty : c.try_put.new.self ≡ [] = c.try_put.ensures.unchanged c.if-try_put.false ∙ c.flush.ensures.empty in
    HasPut-then _ _ _ [] _ c.flush.ensures.put (put_through _ _ _ _ c.try_put.new.self _ c.write_on-self.ensures c.flush.ensures.empty empty)
