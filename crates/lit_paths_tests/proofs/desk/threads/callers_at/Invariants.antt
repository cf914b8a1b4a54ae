use Rattle.std.proofs.Common.{vec_len}
use Rattle.std.specs.Prelude.{All}
use Rattle.lit_desk.specs.Desk.{IsPlaceOf}
use Rattle.lit_paths_tests.proofs.desk.threads.callers_at.Given as goal

abbrev pub invariant-loop-place : goal.invariant-loop-place
invariant-loop-place l = record {
  places : All (IsPlaceOf l.fn._desk) l.places.items;
  callers : All (λ c. IsPlaceOf l.fn._desk c.place) l.callers.items;
}

abbrev pub decreases-loop-place : goal.decreases-loop-place
decreases-loop-place l = vec_len l.places
