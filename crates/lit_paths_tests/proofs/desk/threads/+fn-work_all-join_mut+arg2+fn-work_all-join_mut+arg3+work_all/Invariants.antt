use Rattle.std.proofs.Common.{length}
use Rattle.std.specs.Prelude.{All}
use Rattle.lit_desk.specs.Desk.{IsPlaceOf}
use Rattle.lit_paths_tests.proofs.desk.threads.+fn-work_all-join_mut+arg2+fn-work_all-join_mut+arg3+work_all.Given as goal

abbrev pub decreases-join_mut+arg2 : goal.decreases-join_mut+arg2
decreases-join_mut+arg2 g l = length l.front.now

abbrev pub decreases-join_mut+arg3 : goal.decreases-join_mut+arg3
decreases-join_mut+arg3 g l = length l.back.now

abbrev pub decreases-work_all : goal.decreases-work_all
decreases-work_all g l = length l.callers.now

abbrev pub invariant-loop-caller : goal.invariant-loop-caller
invariant-loop-caller g l = All (λ c. IsPlaceOf l.desk c.place) l.caller-items
