-- The pieces of a cutting (this project's own): the numbers below a total, cut into runs of one length, of which the last
-- may be shorter.
use Rattle.std.specs.Prelude.{ℕ, ◌+◌, ◌*◌, Bool, List, min}
use Rattle.std.specs.Int.{div_ceil}
use Rattle.std.specs.List.{list_any}
use Rattle.lit_search.specs.Report.{in_range}

-- how many pieces there are: the total over the cut, rounded up
abbrev pub pieces_of : ℕ → ℕ → ℕ
pieces_of total cut = div_ceil total cut

-- a piece goes from this number ..
abbrev pub piece_start : ℕ → ℕ → ℕ
piece_start cut i = i * cut

-- .. up to and without this one
abbrev pub piece_end : ℕ → ℕ → ℕ → ℕ
piece_end total cut i = min ((i + 1) * cut) total

-- the numbers of a piece
abbrev pub in_piece : ℕ → ℕ → ℕ → ℕ → Bool
in_piece total cut i = in_range (piece_start cut i) (piece_end total cut i)

-- the numbers of several pieces
abbrev pub in_pieces : ℕ → ℕ → List ℕ → ℕ → Bool
in_pieces total cut pieces n = list_any (λ i. in_piece total cut i n) pieces
