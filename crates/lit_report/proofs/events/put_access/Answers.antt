use Rattle.std.specs.Prelude.{codes}
use Rattle.lit_report.proofs.Putting.{HasPut-is}
use Rattle.lit_report.proofs.Lines.{short_name_is}
use Rattle.lit_report.proofs.events.put_access.Goals as goal

pub returns-then-place-lt10 : goal.returns-then-place-lt10
returns-then-place-lt10 g c = HasPut-is _ _ _ _ c.put_four.ensures (short_name_is c.args.agent.now (codes ".") c.args.place _ c.if-agent-eq1.true c.if-place-lt10.true)
