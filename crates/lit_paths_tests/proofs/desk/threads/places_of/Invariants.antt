use Rattle.std.proofs.Common.{vec_len}
use Rattle.std.specs.Prelude.{All}
use Rattle.lit_desk.specs.Desk.{IsPlaceOf}
use Rattle.lit_paths_tests.proofs.desk.threads.places_of.Given as goal

abbrev pub invariant-loop-caller : goal.invariant-loop-caller
invariant-loop-caller l = record {
  places : All (IsPlaceOf l.fn._desk) l.places.items;
  callers : All (λ c. IsPlaceOf l.fn._desk c.place) l.callers.items;
}

abbrev pub decreases-loop-caller : goal.decreases-loop-caller
decreases-loop-caller l = vec_len l.callers
