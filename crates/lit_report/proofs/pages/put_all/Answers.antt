use Rattle.lit_report.proofs.PageTexts.{page_whole}
use Rattle.lit_report.proofs.Putting.{HasPut-is}
use Rattle.lit_report.proofs.pages.put_all.Goals as goal

pub returns : goal.returns
returns g c = HasPut-is _ _ _ _ c.put_entries.ensures (page_whole c.args.plan.now c.args.found.now c.len.result c.len.ensures)
