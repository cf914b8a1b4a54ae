use Rattle.lit_search.proofs.Words.{◌+◌, ◌++◌, ◌<◌, ◌^◌, All, into_iter_items, map, ◌≡◌}
use Rattle.lit_search.proofs.RankLemmas.{moved}
use Rattle.lit_search.proofs.found.ranking.all_behind.Given as goal

abbrev pub invariant-loop-rank : goal.invariant-loop-rank
invariant-loop-rank l = record {
  moved : l.moved.items ++ map (moved l.count) (into_iter_items l.rank-iterator) ≡ map (moved l.count) (into_iter_items l.initial.rank-iterator);
  fits : All (λ rank. rank.place + l.count < 2 ^ 64) (into_iter_items l.rank-iterator);
}
