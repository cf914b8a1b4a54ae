use Rattle.std.proofs.Common.{length}
use Rattle.lit_share.proofs.full_search.+fn-search_all-join_mut+arg2+fn-search_all-join_mut+arg3+search_all.Given as goal

abbrev pub decreases-join_mut+arg2 : goal.decreases-join_mut+arg2
decreases-join_mut+arg2 g l = length l.front.now

abbrev pub decreases-join_mut+arg3 : goal.decreases-join_mut+arg3
decreases-join_mut+arg3 g l = length l.back.now

abbrev pub decreases-search_all : goal.decreases-search_all
decreases-search_all g l = length l.workers.now
