use Rattle.std.proofs.Common.{◌≡◌, ◌+◌, length, vec_len}
use Rattle.std.specs.Prelude.{All}
use Rattle.lit_desk.specs.Desk.{new_place}
use Rattle.lit_share.specs.Internal.Workers.{IsReady}
use Rattle.lit_share.proofs.worker.workers_at.Given as goal

abbrev pub invariant-loop-place : goal.invariant-loop-place
invariant-loop-place g l = record {
  new : All (λ place. place ≡ new_place l.fn._desk) l.places.items;
  passes : length l.passes.items ≡ length l.places.items;
  ready : All (IsReady l.fn._desk) l.workers.items;
  count : length l.workers.items + length l.places.items ≡ length l.fn.places.items;
}

abbrev pub decreases-loop-place : goal.decreases-loop-place
decreases-loop-place g l = vec_len l.places
