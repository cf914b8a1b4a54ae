use Rattle.lit_search.proofs.Words.{◌+◌, ◌++◌, ◌<◌, [], ◌^◌, All, ap, append_assoc, arith, into_iter_items, List, map, Rank, subst, suc}
use Rattle.lit_search.proofs.Words.{sym, ◌∙◌, ◌∷◌, ◌≡◌}
use Rattle.lit_search.proofs.RankLemmas.{moved}
use Rattle.lit_search.proofs.found.ranking.all_behind.Goals as goal

pub loop-rank-preserved : goal.loop-rank-preserved
loop-rank-preserved c =
    let f = moved c.args.count in
    let old = c.loop-rank.moved.items in
    let rest = into_iter_items c.next.new.self in
    let step = c.in-Some.ensures.steps.0 in
    let items : c.push.new.self.items ≡ old ++ f c.in-Some.rank ∷ [] = c.in_ok-push.ensures.items in
    let P : List Rank → Type 0 = All (λ rank. rank.place + c.args.count < 2 ^ 64) in
    let all = subst P step c.loop-rank.invariant.fits in
    record {
      moved = ap (λ (xs : List Rank). xs ++ map f rest) items ∙ append_assoc old (f c.in-Some.rank ∷ []) (map f rest) ∙ ap (λ (xs : List Rank). old ++ map f xs) (sym step) ∙ c.loop-rank.invariant.moved;
      fits = λ k d lt. all (suc k) d (omega (arith, lt));
    }
