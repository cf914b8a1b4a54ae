use Rattle.std.proofs.Common.{◌≤◌, length}
use Rattle.lit_report.proofs.choice_sources.ChoiceSources.shared.Given as goal

abbrev pub invariant-loop-place : goal.invariant-loop-place
invariant-loop-place l = l.place ≤ length l.self.lows.items

abbrev pub decreases-loop-place : goal.decreases-loop-place
decreases-loop-place l = l.place
