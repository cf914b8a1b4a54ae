use Rattle.std.proofs.Common.{◌≡◌, ◌+◌, length, vec_len}
use Rattle.std.specs.Prelude.{All}
use Rattle.lit_share.specs.Internal.Workers.{HasHunted, IsHuntedOut}
use Rattle.lit_share.proofs.quick_search.places_of.Given as goal

abbrev pub invariant-loop-worker : goal.invariant-loop-worker
invariant-loop-worker g l = record {
  left : All (HasHunted l.fn._plan l.fn._cut l.fn._desk) l.workers.items;
  places : All (IsHuntedOut l.fn._plan l.fn._cut l.fn._desk) l.places.items;
  count : length l.places.items + length l.workers.items ≡ length l.fn.workers.items;
}

abbrev pub decreases-loop-worker : goal.decreases-loop-worker
decreases-loop-worker g l = vec_len l.workers
