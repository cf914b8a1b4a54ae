-- Guards of one path that are false.
use Rattle.std.specs.Prelude.{◌≡◌, ℕ, false, Option, List, Some, slice_get}
use Rattle.lit_paths.specs.declared.event.Event.{Event}
use Rattle.lit_paths.specs.declared.path.Tested.{Tested}
use Rattle.lit_paths.specs.Run.{compares}
use Rattle.lit_rel.specs.Broken.{number_on}
use Rattle.lit_rel.specs.GuardedBytes.{IsFalseOfByte}

-- some guard of a path whose first event has this number asks about the event, and is false of the value
pub record HasFalse (tests : List Tested) (first : ℕ) (asked : Option ℕ) (value : ℕ) : Type 0 where
  pub place : ℕ
  pub test : Tested
  pub at_place : slice_get tests place ≡ Some test
  pub asks : number_on first test.on ≡ asked
  pub is_false : compares test.equal value test.value ≡ false

-- some guard of such a path asks about read r, which is event e, and is false whatever r reads, if byte b of it is x
pub record HasFalseByte (tests : List Tested) (first r : ℕ) (e : Event) (b x : ℕ) : Type 0 where
  pub place : ℕ
  pub test : Tested
  pub at_place : slice_get tests place ≡ Some test
  pub asks : number_on first test.on ≡ Some r
  pub is_false : IsFalseOfByte e b x test
