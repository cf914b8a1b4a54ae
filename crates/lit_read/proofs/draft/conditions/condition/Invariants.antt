use Rattle.std.proofs.Common.{◌≡◌, drop}
use Rattle.lit_syntax.specs.Litmus.{agents_view}
use Rattle.lit_read.specs.Internal.Built.{begun, build}
use Rattle.lit_read.specs.Internal.Views.{groups_view, mark_views}
use Rattle.lit_read.proofs.draft.conditions.condition.Given as goal

abbrev pub invariant-loop-mark : goal.invariant-loop-mark
invariant-loop-mark l = build (agents_view l.agents.entries) (groups_view l.groups) (mark_views (drop l.mark-index l.marks)) ≡ build (agents_view l.agents.entries) begun (mark_views l.marks)
