-- The entries of ranks, by their places in the concatenated lists of entries.
use Rattle.std.specs.Prelude.{List, [], slice_index_or}
use Rattle.std.specs.List.{flat_map}
use Rattle.lit_search.specs.declared.found.ranking.Rank.{Rank}
use Rattle.lit_search.specs.Report.{Entry}

-- the lists, concatenated
abbrev pub joined_entries : List (List Entry) → List Entry
joined_entries parts = flat_map (λ part. part) parts

-- past the last one, one with no outcome and no order
abbrev pub ranked_entry : List Entry → Rank → Entry
ranked_entry entries rank = slice_index_or entries rank.place (record { outcome = []; choice = 0; order = [] })
