-- reads-bytes-from, reads-from, and the value of a read (ECMA-262, 2024, 29.6.2, 29.6.3, 29.5.4 and 29.5.5).
-- The sources are one event number for each byte that is read, in the order of `byte_reads`. They may be fewer than
-- all: the relations are then those of the sources given. Each relation is defined by what is given: that byte b of
-- read r has the source w, for any set of bytes.
use Rattle.std.specs.Prelude.{◌≡◌, ℕ, ◌+◌, ◌*◌, ◌==◌, Some, List, [], ◌∷◌, map, filter, slice_get}
use Rattle.std.specs.List.{zip}
use Rattle.lit_paths.specs.declared.event.Event.{Event}
use Rattle.lit_paths.specs.Event.{payload_at, event_at}
use Rattle.lit_paths.specs.ByteReads.{byte_reads}

-- the source of byte b of read r is w
abbrev pub ReadsByteFrom : List Event → List ℕ → ℕ → ℕ → ℕ → Type 0
ReadsByteFrom events sources r b w = (i : ℕ) × (slice_get (byte_reads events) i ≡ Some (r, b)) × (slice_get sources i ≡ Some w)

-- some byte of read r has the source w, by what is given
abbrev pub ReadsFromBy : (ℕ → ℕ → ℕ → Type 0) → ℕ → ℕ → Type 0
ReadsFromBy given r w = (b : ℕ) × given r b w

abbrev pub ReadsFrom : List Event → List ℕ → ℕ → ℕ → Type 0
ReadsFrom events sources = ReadsFromBy (ReadsByteFrom events sources)

-- a number from its bytes, the lowest first
abbrev pub composed : List ℕ → ℕ
composed [] = 0
composed (b ∷ bs) = b + 256 * composed bs

-- the value of read r, from the payload byte of each of its sources, by rising byte
abbrev pub value_of : List Event → List ℕ → ℕ → ℕ
value_of events sources r =
    composed (map (λ p. payload_at (event_at events p.1) p.0.1) (filter (λ p. p.0.0 == r) (zip (byte_reads events) sources)))
