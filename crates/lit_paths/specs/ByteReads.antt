-- The bytes that events read, of which reads-bytes-from tells the sources (ECMA-262, 2024, 29.6.2).
use Rattle.std.specs.Prelude.{ℕ, ◌+◌, if◌then◌else◌, List, [], map, slice_index_or}
use Rattle.std.specs.List.{flat_map, enumerate_from, range_with_len}
use Rattle.lit_paths.specs.declared.event.Event.{Event}
use Rattle.lit_paths.specs.declared.byte_reads.ByteRead.{ByteRead}
use Rattle.lit_paths.specs.Event.{does_read}

-- the bytes that the event with number n reads, each with that number
abbrev pub bytes_read_by : ℕ → Event → List (ℕ × ℕ)
bytes_read_by n e = if does_read e.kind then map (λ k. (n, e.first + k)) (range_with_len 0 e.size) else []

-- each byte that is read, as the number of the read and the byte: reads by rising number, bytes rising within a read
abbrev pub byte_reads : List Event → List (ℕ × ℕ)
byte_reads events = flat_map (λ e. bytes_read_by e.0 e.1) (enumerate_from 0 events)

-- those of events of which the first has number n
abbrev pub byte_reads_from : ℕ → List Event → List (ℕ × ℕ)
byte_reads_from n events = flat_map (λ e. bytes_read_by e.0 e.1) (enumerate_from n events)

-- the byte read with a place among them, from 0
abbrev pub byte_read_at : List Event → ℕ → ℕ × ℕ
byte_read_at events k = slice_index_or (byte_reads events) k (0, 0)

-- what a value of the program's type `ByteRead` is
abbrev pub pair_of : ByteRead → ℕ × ℕ
pair_of p = (p.read, p.byte)
