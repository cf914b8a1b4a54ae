-- The number of a choice as a sum over its byte reads (this project's own).
use Rattle.std.specs.Prelude.{ℕ, ◌+◌, ◌*◌, ◌==◌, if◌then◌else◌, List, [], ◌∷◌, zero, suc, slice_index_or}
use Rattle.lit_paths.specs.declared.event.Event.{Event}
use Rattle.lit_paths.specs.ByteReads.{byte_read_at}
use Rattle.lit_paths.specs.Choice.{candidates_of}
use Rattle.lit_paths.specs.Numbers.{ways_from}

-- the first place of a number in a list
abbrev pub place_in : List ℕ → ℕ → ℕ
place_in [] w = 0
place_in (v ∷ vs) w = if v == w then 0 else suc (place_in vs w)

-- how many choices have an earlier candidate than w for the k-th byte read, and the same sources before it
abbrev pub digit : List Event → (k w : ℕ) → ℕ
digit events k w = place_in (candidates_of events (byte_read_at events k)) w * ways_from events (k + 1)

-- the digits of the first k byte reads with these sources, added up
abbrev pub digits_below : List Event → List ℕ → (k : ℕ) → ℕ
digits_below events sources zero = 0
digits_below events sources (suc k) = digits_below events sources k + digit events k (slice_index_or sources k 0)

-- of these the digits of read r
abbrev pub share_below : List Event → ℕ → List ℕ → (k : ℕ) → ℕ
share_below events r sources zero = 0
share_below events r sources (suc k) =
    share_below events r sources k + (if (byte_read_at events k).0 == r then digit events k (slice_index_or sources k 0) else 0)
