use Rattle.std.proofs.Common.{length}
use Rattle.lit_share.proofs.quick_search.+fn-hunt_all-join_mut+arg2+fn-hunt_all-join_mut+arg3+hunt_all.Given as goal

abbrev pub decreases-join_mut+arg2 : goal.decreases-join_mut+arg2
decreases-join_mut+arg2 g l = length l.front.now

abbrev pub decreases-join_mut+arg3 : goal.decreases-join_mut+arg3
decreases-join_mut+arg3 g l = length l.back.now

abbrev pub decreases-hunt_all : goal.decreases-hunt_all
decreases-hunt_all g l = length l.workers.now
