use Rattle.std.proofs.Common.{◌-◌, ◌≤◌, length, drop}
use Rattle.lit_read.specs.Internal.Views.{token_views, mark_views}
use Rattle.lit_read.proofs.MarkLemmas.{Marking}
use Rattle.lit_read.proofs.forms.marks.marks_of.Given as goal

abbrev pub invariant-loop-mark : goal.invariant-loop-mark
invariant-loop-mark l =
    record { within : l.at ≤ length l.tokens; few : l.opened ≤ l.at; so_far : Marking (token_views l.tokens) (token_views (drop l.at l.tokens)) (mark_views l.marks.items) l.behind l.opened }

abbrev pub decreases-loop-mark : goal.decreases-loop-mark
decreases-loop-mark l = length l.tokens - l.at
