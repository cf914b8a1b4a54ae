use Rattle.std.proofs.Common.{length}
use Rattle.lit_report.proofs.pages.+fn-print_pages-join_mut+arg2+fn-print_pages-join_mut+arg3+print_pages.Given as goal

abbrev pub decreases-join_mut+arg2 : goal.decreases-join_mut+arg2
decreases-join_mut+arg2 g l = length l.front.now

abbrev pub decreases-join_mut+arg3 : goal.decreases-join_mut+arg3
decreases-join_mut+arg3 g l = length l.back.now

abbrev pub decreases-print_pages : goal.decreases-print_pages
decreases-print_pages g l = length l.pages.now
