use Rattle.std.proofs.Common.{◌≡◌, ◌+◌, length, vec_len}
use Rattle.std.specs.Prelude.{All}
use Rattle.lit_desk.specs.Desk.{IsPlaceOf, IsDone, all_draws}
use Rattle.lit_paths.specs.Choice.{choices_of}
use Rattle.lit_search.specs.Report.{IsReport}
use Rattle.lit_share.specs.Pieces.{in_pieces}
use Rattle.lit_share.specs.Internal.Workers.{HasSearched}
use Rattle.lit_share.proofs.full_search.merged.Given as goal

abbrev pub invariant-loop-worker : goal.invariant-loop-worker
invariant-loop-worker g l = record {
  left : All (HasSearched l.fn.plan l.fn._cut l.fn._desk) l.workers.items;
  own : All (IsPlaceOf l.fn._desk) l.places.items;
  done : All IsDone l.places.items;
  count : length l.places.items + length l.workers.items ≡ length l.fn.workers.items;
  reported : IsReport l.fn.plan (in_pieces (length (choices_of l.fn.plan)) l.fn._cut (all_draws l.places.items)) l.found;
}

abbrev pub decreases-loop-worker : goal.decreases-loop-worker
decreases-loop-worker g l = vec_len l.workers
