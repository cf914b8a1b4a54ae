use Rattle.std.proofs.Common.{◌≤◌, length}
use Rattle.lit_report.proofs.pages.pages_for.Given as goal

abbrev pub invariant-loop-page : goal.invariant-loop-page
invariant-loop-page l = length l.pages.items ≤ l._page
