use Rattle.lit_search.proofs.Words.{◌++◌, [], All-push, ap, append_assoc, AreRanks, Entry, IsRank, joined_entries, List, map, map-append}
use Rattle.lit_search.proofs.Words.{merged, Rank, ranked_entry, subst, sym, ◌∙◌, ◌∷◌, ◌≡◌}
use Rattle.lit_search.proofs.found.merging.merged_ranks.Goals as goal

pub loop-rank-preserved : goal.loop-rank-preserved
loop-rank-preserved c =
    let es = joined_entries c.args.parts.now in
    let f = ranked_entry es in
    let old = c.loop-rank.ranks.items in
    let rank = c.in-Some.rank in
    let rest = merged (map f c.take_least.new.a.items) (map f c.take_least.new.b.items) in
    let items : c.push.new.self.items ≡ old ++ rank ∷ [] = c.in_ok-push.ensures.items in
    record {
      taken =
          ap (λ (rs : List Rank). map f rs ++ rest) items
          ∙ ap (λ (xs : List Entry). xs ++ rest) (map-append f old (rank ∷ []))
          ∙ append_assoc (map f old) (f rank ∷ []) rest
          ∙ ap (λ (xs : List Entry). map f old ++ xs) (sym c.in-Some.ensures.taken)
          ∙ c.loop-rank.invariant.taken;
      ranks = subst (AreRanks es) (sym items) (All-push (IsRank es) old rank c.loop-rank.invariant.ranks c.in-Some.ensures.rank);
      left = c.in-Some.ensures.first;
      right = c.in-Some.ensures.second;
    }
