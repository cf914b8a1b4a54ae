use Rattle.lit_report.proofs.Putting.{HasPut-then, HasPut-is}
use Rattle.lit_report.proofs.SourceLines.{line_end_is}
use Rattle.lit_report.proofs.source_lines.put_line_end.Goals as goal

pub returns-in-len1-up : goal.returns-in-len1-up
returns-in-len1-up g c =
    HasPut-is _ _ _ _ (HasPut-then _ _ _ _ _ c.put_events.ensures c.put_byte.ensures) (line_end_is c.args.test.now c.args.events.now c.args.last.now c.args.sources.now c.in-len1-up.len_at_least)
