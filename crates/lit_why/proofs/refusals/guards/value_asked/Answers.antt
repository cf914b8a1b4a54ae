use Rattle.std.proofs.Common.{sym}
use Rattle.lit_rel.specs.Part.{part_events}
use Rattle.lit_why.proofs.RefusalLemmas.{value_past}
use Rattle.lit_why.proofs.refusals.guards.value_asked.Goals as goal

pub returns-else-read-events : goal.returns-else-read-events
returns-else-read-events c =
    let part = c.args.part.now in
    let len = rw (c.events.ensures.value, c.combination.ensures) at c.if-read-events.false in
    rw c.in-Some.is (sym (value_past (part_events part) part.sources c.in-Some.read len))
