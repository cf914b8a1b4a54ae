use Rattle.std.proofs.Common.{◌≡◌, ◌+◌, length}
use Rattle.lit_rel.specs.Rows.{Holds}
use Rattle.lit_why.specs.Chains.{AreLinked}
use Rattle.lit_why.specs.Internal.Reaching.{IsReachedBy}
use Rattle.lit_why.proofs.chains.links_along.Given as goal

abbrev pub decreases-loop-left : goal.decreases-loop-left
decreases-loop-left l = l.left

abbrev pub invariant-loop-left : goal.invariant-loop-left
invariant-loop-left l = record {
  count : length l.links.items + l.left ≡ length l.levels;
  reached : IsReachedBy (Holds l.steps) l.to l.left l.event;
  linked : AreLinked l.events (Holds l.synchronizes) l.from l.links.items l.event;
}
