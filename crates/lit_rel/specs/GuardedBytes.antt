-- When a guard refuses the source of one byte (this project's own).
use Rattle.std.specs.Prelude.{◌≡◌, ◌≢◌, ◌⊎◌, ℕ, ◌-◌, ◌<◌, true, false, Some, length, slice_get, slice_index}
use Rattle.lit_syntax.specs.Syntax.{Litmus}
use Rattle.lit_paths.specs.declared.event.Event.{Event}
use Rattle.lit_paths.specs.declared.path.Tested.{Tested}
use Rattle.lit_paths.specs.Event.{event_at, payload_at}
use Rattle.lit_paths.specs.Path.{payload_of}
use Rattle.lit_paths.specs.Plan.{AreEventsIn, events_in, first_event, path_in}
use Rattle.lit_rel.specs.Broken.{HasFalseGuard, number_on}
use Rattle.lit_rel.specs.Part.{IsComplete, PartModel, part_events}
use Rattle.lit_rel.specs.ReadsFrom.{ReadsByteFrom}

-- Whatever its other bytes are, a number that event e reads makes the guard false, if its byte b is x: the guard asks that
-- it equals a number with another byte there, or e reads this byte alone and the guard asks that it differs from x.
abbrev pub IsFalseOfByte : Event → ℕ → ℕ → Tested → Type 0
IsFalseOfByte e b x test =
    ((test.equal ≡ true) × (slice_index (payload_of test.value) (b - e.first) ≢ x))
    ⊎ ((test.equal ≡ false) × (e.size ≡ 1) × (test.value ≡ x))

-- some guard of a path of a combination asks about read r, and is false whatever r reads, if byte b of it is x
pub record HasFalseByteOn (t : Litmus) (c r b x : ℕ) : Type 0 where
  pub agent : ℕ
  pub known : agent < length t.agents
  pub place : ℕ
  pub test : Tested
  pub at_place : slice_get (path_in t c agent).tests place ≡ Some test
  pub asks : number_on (first_event t c agent) test.on ≡ Some r
  pub is_false : IsFalseOfByte (event_at (events_in t c) r) b x test

-- some guard refuses the source w of byte b of read r
abbrev pub GuardsRefuse : PartModel → ℕ → ℕ → ℕ → Type 0
GuardsRefuse part r b w = HasFalseByteOn part.test part.combination r b (payload_at (event_at (part_events part) w) b)

-- where a guard refuses a source of a byte, some guard is false of the value of its read
abbrev pub RefusedBytesMakeFalse : Type 0
RefusedBytesMakeFalse =
    (part : PartModel) (r b w : ℕ) → AreEventsIn part.test.bytes (part_events part) → IsComplete part
    → ReadsByteFrom (part_events part) part.sources r b w → GuardsRefuse part r b w → HasFalseGuard part
