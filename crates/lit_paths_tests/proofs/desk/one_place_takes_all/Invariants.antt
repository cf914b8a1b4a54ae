use Rattle.std.proofs.Common.{◌≡◌, length}
use Rattle.std.specs.Prelude.{All}
use Rattle.lit_desk.specs.declared.limits.TheConstants.{MOST_SEATS}
use Rattle.lit_desk.specs.Desk.{IsPlaceOf}
use Rattle.lit_paths_tests.proofs.desk.one_place_takes_all.Given as goal

abbrev pub invariant-loop-i : goal.invariant-loop-i
invariant-loop-i g l = record { places : length l.places.items ≡ MOST_SEATS; own : All (IsPlaceOf l.desk) l.places.items }
