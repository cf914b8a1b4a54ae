-- Events and their ranges (ECMA-262, 2024, clause 29, "Memory Model Fundamentals"). An event's number is its place in
-- the list of all events.
use Rattle.std.specs.Prelude.{ℕ, ◌+◌, ◌-◌, ◌<◌, ◌≤◌, ◌↔◌, Bool, true, false, None}
use Rattle.std.specs.Prelude.{List, [], ◌∷◌, map, slice_index, slice_index_or}
use Rattle.std.specs.List.{range_with_len}
use Rattle.lit_paths.specs.declared.event.Kind.{Kind}
use Rattle.lit_paths.specs.declared.event.Kind.TheVariants.{Read, Write, Modify}
use Rattle.lit_paths.specs.declared.event.Order3.TheVariants.{Unordered, Init}
use Rattle.lit_paths.specs.declared.event.Event.{Event}

-- the byte is in the event's range
abbrev pub HasByte : Event → ℕ → Type 0
HasByte e b = (e.first ≤ b) × (b < e.first + e.size)

-- the ranges are equal, as sets of bytes
unfoldable pub HasSameRange : Event → Event → Type 0
HasSameRange e d = (b : ℕ) → HasByte e b ↔ HasByte d b

-- some byte is in both ranges
abbrev pub SharesByte : Event → Event → Type 0
SharesByte e d = (b : ℕ) × HasByte e b × HasByte d b

-- a ReadSharedMemory or ReadModifyWriteSharedMemory event
abbrev pub does_read : Kind → Bool
does_read Read = true
does_read Write = false
does_read Modify = true

-- a WriteSharedMemory or ReadModifyWriteSharedMemory event
abbrev pub does_write : Kind → Bool
does_write Read = false
does_write Write = true
does_write Modify = true

-- the byte that the event stores at byte b of its range
abbrev pub payload_at : Event → ℕ → ℕ
payload_at e b = slice_index e.payload (b - e.first)

-- the placeholder for an event past the end of a list: it has no byte and writes nothing (decision 2)
abbrev pub no_event : Event
no_event = record { kind = Read; order = Unordered; no_tear = false; first = 0; size = 0; payload = []; owner = None; place = 0 }

-- the event with a number
abbrev pub event_at : List Event → ℕ → Event
event_at events n = slice_index_or events n no_event

-- the write that makes byte b (CreateSharedByteDataBlock); that these are a list of their own is this project's own
abbrev pub init_event : ℕ → Event
init_event b =
    record { kind = Write; order = Init; no_tear = true; first = b; size = 1; payload = 0 ∷ 0 ∷ 0 ∷ 0 ∷ []; owner = None; place = b }

-- the events that make a block with this number of bytes, by byte
abbrev pub init_events : ℕ → List Event
init_events bytes = map init_event (range_with_len 0 bytes)
