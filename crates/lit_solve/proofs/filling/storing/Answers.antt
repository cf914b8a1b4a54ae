use Rattle.lit_solve.proofs.Words.{arith, split_less}
use Rattle.lit_solve.proofs.ReadByteLemmas.{matching_more, matching_same}
use Rattle.lit_solve.proofs.filling.storing.Goals as goal

pub loop-event-smaller : goal.loop-event-smaller
loop-event-smaller c = split_less c.loop-event.left c.in-Some.event c.in-Some.others c.in-Some.ensures

pub loop-event-smaller-then-payload_at-stored : goal.loop-event-smaller-then-payload_at-stored
loop-event-smaller-then-payload_at-stored c = split_less c.loop-event.left c.in-Some.event c.in-Some.others c.in-Some.ensures

pub loop-event-preserved-then-payload_at-stored : goal.loop-event-preserved-then-payload_at-stored
loop-event-preserved-then-payload_at-stored c = grind (arith, matching_more)

pub loop-event-preserved : goal.loop-event-preserved
loop-event-preserved c = grind (arith, matching_same)
