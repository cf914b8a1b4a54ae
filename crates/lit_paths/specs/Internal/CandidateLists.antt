-- The candidates of the byte reads of a combination.
use Rattle.std.specs.Prelude.{ℕ, List, [], ◌∷◌, length, map}
use Rattle.lit_paths.specs.declared.event.Event.{Event}
use Rattle.lit_paths.specs.declared.byte_reads.ByteRead.{ByteRead}
use Rattle.lit_paths.specs.ByteReads.{pair_of}
use Rattle.lit_paths.specs.Choice.{product, candidates_of}

-- the candidates of a byte read
abbrev pub candidates_for : List Event → ByteRead → List ℕ
candidates_for events read = candidates_of events (pair_of read)

-- the candidates of each byte read
abbrev pub candidate_lists : List Event → List ByteRead → List (List ℕ)
candidate_lists events reads = map (candidates_for events) reads

-- for each list, the number of members of the product of the lists after it
abbrev pub ways_after : {A : Type 0} → List (List A) → List ℕ
ways_after [] = []
ways_after (xs ∷ rest) = length (product rest) ∷ ways_after rest
