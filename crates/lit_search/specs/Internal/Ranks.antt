-- Ranks of entries: they compare as the outcomes do.
use Rattle.std.specs.Prelude.{◌≡◌, ℕ, ◌<◌, Bool, nat_eq, List, ◌∷◌, length}
use Rattle.std.specs.Cmp.Lexicographic.{pointwise, slice_cmp}
use Rattle.std.specs.List.{All}
use Rattle.std.specs.List.Sorted.{IsStrictlySortedBy}
use Rattle.std.specs.Ordering.{nat_cmp}
use Rattle.std.specs.declared.cmp.Ordering.{Ordering}
use Rattle.lit_search.specs.declared.found.Found.TheInside.{Inside}
use Rattle.lit_search.specs.declared.found.ranking.Rank.{Rank}
use Rattle.lit_search.specs.Found.{report_of}
use Rattle.lit_search.specs.Ranked.{joined_entries, ranked_entry}
use Rattle.lit_search.specs.Report.{Entry, outcome_cmp}
use Rattle.lit_search.specs.Internal.Packed.{IsPacked}

-- whether two entries have the same outcome
abbrev pub are_same : Entry → Entry → Bool
are_same a b = pointwise nat_eq a.outcome b.outcome

-- an entry stands at the place of the rank, and the rank has its outcome packed
pub record IsRank (entries : List Entry) (rank : Rank) : Type 0 where
  pub within : rank.place < length entries
  pub packed : IsPacked rank.small rank.large (ranked_entry entries rank).outcome

abbrev pub AreRanks : List Entry → List Rank → Type 0
AreRanks entries ranks = All (IsRank entries) ranks

-- by what ranks compare, as lists
abbrev pub rank_key : List Entry → Rank → List ℕ
rank_key entries rank = rank.small ∷ rank.large ∷ (ranked_entry entries rank).outcome

abbrev pub rank_cmp : List Entry → Rank → Rank → Ordering
rank_cmp entries a b = slice_cmp nat_cmp (rank_key entries a) (rank_key entries b)

-- The ranks rise by outcome, and are of the entries that are counted.
pub record IsRanked (found : Inside) : Type 0 where
  pub rising : IsStrictlySortedBy outcome_cmp (report_of found).entries
  pub ranks : AreRanks (joined_entries found.parts.items) found.ranks.items
  pub count : found.count ≡ length (joined_entries found.parts.items)
