use Rattle.lit_search.proofs.Words.{◌-◌, AreRanks, joined_entries, length, map, ranked_entry, take, ◌≡◌, ◌≤◌}
use Rattle.lit_search.proofs.found.ranking.ranked.Given as goal

abbrev pub invariant-loop-outcome : goal.invariant-loop-outcome
invariant-loop-outcome l = record {
  few : length l.ranks.items ≤ length (joined_entries l.parts);
  each : map (ranked_entry (joined_entries l.parts)) l.ranks.items ≡ take (length l.ranks.items) (joined_entries l.parts);
  ranks : AreRanks (joined_entries l.parts) l.ranks.items;
}

abbrev pub decreases-loop-outcome : goal.decreases-loop-outcome
decreases-loop-outcome l = length (joined_entries l.parts) - length l.ranks.items
