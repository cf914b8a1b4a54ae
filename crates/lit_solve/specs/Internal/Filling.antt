-- Filling a read byte by byte: which sources its other bytes may have, beside those of its first bytes.
use Rattle.std.specs.Prelude.{◌≡◌, ◌⊎◌, ◌↔◌, ℕ, ◌+◌, ◌*◌, ◌^◌, ◌<◌, ◌≤◌, ◌==◌, List}
use Rattle.std.specs.Prelude.{Some, drop, filter, length, map, slice_get}
use Rattle.std.specs.List.{zip}
use Rattle.lit_paths.specs.declared.event.Event.{Event}
use Rattle.lit_paths.specs.ByteReads.{byte_reads}
use Rattle.lit_paths.specs.Event.{event_at, payload_at}
use Rattle.lit_rel.specs.EventSet.{HasEvent}
use Rattle.lit_rel.specs.Broken.{HasFalseGuardOn}
use Rattle.lit_rel.specs.ReadsFrom.{composed}
use Rattle.lit_rel.specs.TearFree.{CanReadWhole}
use Rattle.lit_solve.specs.declared.filling.Taken.{Taken}
use Rattle.lit_solve.specs.Box.{Box, HasSource, box_events}

-- the byte reads of events from this one on begin at the k-th, or there are no more than k
pub record IsFirstPlace (events : List Event) (event k : ℕ) : Type 0 where
  pub within : k ≤ length (byte_reads events)
  pub before : (j r b : ℕ) → j < k → slice_get (byte_reads events) j ≡ Some (r, b) → r < event
  pub later : (j r b : ℕ) → k ≤ j → slice_get (byte_reads events) j ≡ Some (r, b) → event ≤ r

-- the byte reads from the k-th on
abbrev pub reads_on : List Event → ℕ → List (ℕ × ℕ)
reads_on events k = drop k (byte_reads events)

-- sources of the byte reads from the k-th on, each in the domain of its byte read
pub record LieFrom (box : Box) (k : ℕ) (sources : List ℕ) : Type 0 where
  pub one_each : k + length sources ≡ length (byte_reads (box_events box))
  pub within : (i w : ℕ) → slice_get sources i ≡ Some w → HasSource box (k + i) w

-- read r takes some of these bytes from w, and can read whole from it
pub record TakesWhole (events : List Event) (reads : List (ℕ × ℕ)) (sources : List ℕ) (r w : ℕ) : Type 0 where
  pub place : ℕ
  pub byte : ℕ
  pub is_read : slice_get reads place ≡ Some (r, byte)
  pub takes : slice_get sources place ≡ Some w
  pub can : CanReadWhole (event_at events r) (event_at events w)

-- what read r takes of these bytes
abbrev pub bytes_taken : List Event → List (ℕ × ℕ) → List ℕ → ℕ → List ℕ
bytes_taken events reads sources r = map (λ p. payload_at (event_at events p.1) p.0.1) (filter (λ p. p.0.0 == r) (zip reads sources))

-- These sources fill the other bytes of read r. Its first `bytes` bytes compose `value`, and it reads whole from the events `whole`.
pub record FillsBytes (box : Box) (r : ℕ) (reads : List (ℕ × ℕ)) (whole : ℕ → Type 0) (value bytes : ℕ) (sources : List ℕ) : Type 0 where
  pub tear_free : (w v : ℕ) → TakesWhole (box_events box) reads sources r w
      → whole v ⊎ TakesWhole (box_events box) reads sources r v → v ≡ w
  pub guards : ¬ HasFalseGuardOn box.test box.combination (Some r)
      (value + 256 ^ bytes * composed (bytes_taken (box_events box) reads sources r))

-- some sources of the byte reads from the k-th on fill the other bytes of read r
abbrev pub CanFillOn : Box → ℕ → ℕ → (ℕ → Type 0) → ℕ → ℕ → Type 0
CanFillOn box r k whole value bytes =
    (sources : List ℕ) × LieFrom box k sources × FillsBytes box r (reads_on (box_events box) k) whole value bytes sources

-- w would not tear read r, which reads whole from the events `whole`
abbrev pub WouldNotTear : List Event → ℕ → (ℕ → Type 0) → ℕ → Type 0
WouldNotTear events r whole w = CanReadWhole (event_at events r) (event_at events w) → (v : ℕ) → whole v → v ≡ w

-- from which read r reads whole, once it takes a byte from w too
abbrev pub WholeWith : List Event → ℕ → (ℕ → Type 0) → ℕ → ℕ → Type 0
WholeWith events r whole w v = whole v ⊎ ((v ≡ w) × CanReadWhole (event_at events r) (event_at events w))

-- read r can be filled on with w as the source of the k-th byte read, byte b of it
abbrev pub CanFillWith : Box → ℕ → ℕ → ℕ → (ℕ → Type 0) → ℕ → ℕ → ℕ → Type 0
CanFillWith box r k b whole value bytes w =
    WouldNotTear (box_events box) r whole w
    × CanFillOn box r (k + 1) (WholeWith (box_events box) r whole w) (value + 256 ^ bytes * payload_at (event_at (box_events box) w) b)
    (bytes + 1)

-- The byte reads from the k-th on are of read r and later reads, and r has at most four bytes with those that it took already.
pub record HasRoom (events : List Event) (r k : ℕ) (taken : Taken) : Type 0 where
  pub place : k ≤ length (byte_reads events)
  pub later : (j q b : ℕ) → k ≤ j → slice_get (byte_reads events) j ≡ Some (q, b) → r ≤ q
  pub composed : taken.value < 256 ^ taken.bytes
  pub few : taken.bytes + length (filter (λ p. p.0 == r) (reads_on events k)) ≤ 4

-- what read r takes once w is the source of the k-th byte read, byte b of it, which does not tear it
pub record TakesOn (events : List Event) (r k b w : ℕ) (taken next : Taken) : Type 0 where
  pub free : WouldNotTear events r (HasEvent taken.whole) w
  pub whole : (v : ℕ) → HasEvent next.whole v ↔ WholeWith events r (HasEvent taken.whole) w v
  pub value : next.value ≡ taken.value + 256 ^ taken.bytes * payload_at (event_at events w) b
  pub bytes : next.bytes ≡ taken.bytes + 1
  pub room : HasRoom events r (k + 1) next
