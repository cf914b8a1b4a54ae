use Rattle.std.proofs.Common.{arith}
use Rattle.std.proofs.lemmas.Grind.{common_steps}
use Rattle.lit_rel.proofs.SetLemmas.{event_or_not, split_less}
use Rattle.lit_why.proofs.representatives.is_stored_before.Goals as goal

pub returns-then-event-source : goal.returns-then-event-source
returns-then-event-source c = grind (arith, common_steps, event_or_not)

pub returns-then-do_agree : goal.returns-then-do_agree
returns-then-do_agree c = grind (arith, common_steps)

pub loop-event-smaller : goal.loop-event-smaller
loop-event-smaller c = split_less c.loop-event.left c.in-Some.event c.in-Some.others c.in-Some.ensures

pub loop-event-preserved : goal.loop-event-preserved
loop-event-preserved c = grind (arith, common_steps, event_or_not)

pub returns : goal.returns
returns c = grind (arith, common_steps)
