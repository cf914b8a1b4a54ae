-- What the list of byte reads has (this project's own).
use Rattle.std.specs.Prelude.{◌≡◌, ℕ, ◌<◌, IsTrue, List, length, Some, slice_get}
use Rattle.lit_paths.specs.declared.event.Event.{Event}
use Rattle.lit_paths.specs.ByteReads.{byte_reads}
use Rattle.lit_paths.specs.Event.{HasByte, does_read, event_at}

-- Each byte read is of an event that reads, and of a byte of its range. None stands twice in the list.
pub record AreOfEvents (events : List Event) : Type 0 where
  pub known : (k r b : ℕ) → slice_get (byte_reads events) k ≡ Some (r, b) → r < length events
  pub reads : (k r b : ℕ) → slice_get (byte_reads events) k ≡ Some (r, b) → IsTrue (does_read (event_at events r).kind)
  pub in_range : (k r b : ℕ) → slice_get (byte_reads events) k ≡ Some (r, b) → HasByte (event_at events r) b
  pub once : (j k r b : ℕ) → slice_get (byte_reads events) j ≡ Some (r, b) → slice_get (byte_reads events) k ≡ Some (r, b) → j ≡ k
