use Rattle.lit_search.proofs.Words.{◌++◌, [], All-permutation, always_returns_same, ap, arith, Entry, IsPermutation, IsPermutation-map}
use Rattle.lit_search.proofs.Words.{IsRank, joined_entries, length, length-append, List, map, nat_list_cmp_total, Rank, rank_key}
use Rattle.lit_search.proofs.Words.{ranked_entry, ranks_by, rules, shown_entry, slice_get, slice_get_within, subst, sym, take_all, ◌∙◌}
use Rattle.lit_search.proofs.Words.{◌∷◌, ◌≡◌}
use Rattle.lit_search.proofs.RisenEntries.{sorted_risen}
use Rattle.lit_search.proofs.RankLemmas.{one_more_each, one_more_rank, past, sorted_by_outcome}
use Rattle.lit_search.proofs.found.ranking.ranked.Goals as goal

pub loop-outcome-preserved : goal.loop-outcome-preserved
loop-outcome-preserved c =
    let es = joined_entries c.args.parts.now in
    let old = c.loop-outcome.ranks in
    let rank : Rank = record { large = c.packed.result; small = c.packed-in-Some.result; place = c.len-in-Some.result } in
    let e = shown_entry c.in-Some.outcome.now c.in-Some.field-0-1.now in
    let there = ap (slice_get es) (sym old.ok.0) ∙ ap (slice_get es) (sym c.len.ensures) ∙ sym c.in-Some.ensures in
    let at = c.len-in-Some.ensures ∙ old.ok.0 in
    let items : c.push.new.self.items ≡ old.items ++ rank ∷ [] = c.in_ok-push.ensures.items in
    rw items (record {
      few = omega (arith, length-append old.items (rank ∷ []), slice_get_within es (length old.items) e there);
      each = one_more_each es old.items rank e at there c.loop-outcome.invariant.each;
      ranks = one_more_rank es old.items rank e at there (record { by_small = c.packed-in-Some.ensures; by_large = c.packed.ensures })
          c.loop-outcome.invariant.ranks;
    })

pub returns-clause-ranks : goal.returns-clause-ranks
returns-clause-ranks c = All-permutation (IsRank (joined_entries c.args.parts.now)) c.loop-outcome.ranks.items c.sort_unstable_by.new.self.items c.sort_unstable_by.ensures.permutation c.loop-outcome.invariant.ranks

pub returns-clause-rising : goal.returns-clause-rising
returns-clause-rising c =
    let es = joined_entries c.args.parts.now in
    let all = c.loop-outcome.ranks in
    let sorted = c.sort_unstable_by.new.self.items in
    let end = past es (length all.items) (ap (slice_get es) (sym all.ok.0) ∙ ap (slice_get es) (sym c.len.ensures)
    ∙ sym c.in_default.ensures) in
    let P : List Entry → Type 0 = λ xs. IsPermutation xs (map (ranked_entry es) sorted) in
    sorted_risen (ranked_entry es) es sorted c.requires
    (subst P (c.loop-outcome.invariant.each ∙ take_all (length all.items) es end) (IsPermutation-map (ranked_entry es) all.items sorted c.sort_unstable_by.ensures.permutation))
    (sorted_by_outcome es sorted (All-permutation (IsRank es) all.items sorted c.sort_unstable_by.ensures.permutation c.loop-outcome.invariant.ranks)
    (c.sort_unstable_by.ensures.sorted _ (ranks_by nat_list_cmp_total (rank_key es)) (always_returns_same _ _ _ (λ a r f' k. search rules))))
