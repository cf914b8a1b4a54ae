use Rattle.lit_search.proofs.Words.{◌+◌, ◌++◌, AreRanks, joined_entries, length, map, merged, ranked_entry, ◌≡◌}
use Rattle.lit_search.proofs.found.merging.merged_ranks.Given as goal

abbrev pub invariant-loop-rank : goal.invariant-loop-rank
invariant-loop-rank l =
    let es = joined_entries l.parts in
    let f = ranked_entry es in
    record {
      taken : map f l.ranks.items ++ merged (map f l.left.items) (map f l.right.items) ≡ merged (map f l.initial.left.items) (map f l.initial.right.items);
      ranks : AreRanks es l.ranks.items;
      left : AreRanks es l.left.items;
      right : AreRanks es l.right.items;
    }

abbrev pub decreases-loop-rank : goal.decreases-loop-rank
decreases-loop-rank l = length l.left.items + length l.right.items
