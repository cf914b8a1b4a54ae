use Rattle.lit_search.proofs.Words.{◌++◌, [], ap, append-nil, AreRanks, Entry, joined_entries, length, List, map, ranked_entry, subst, sym}
use Rattle.lit_search.proofs.Words.{◌∙◌, ◌∷◌, ◌≡◌}
use Rattle.lit_search.proofs.MergedEntries.{AreRising}
use Rattle.lit_search.proofs.RisenEntries.{rises}
use Rattle.lit_search.proofs.found.Found.new.Goals as goal

pub invariant_of-result : goal.invariant_of-result
invariant_of-result c =
    let items : c.push.new.self.items ≡ c.in_ok-parts.parts.items ++ c.args.examples ∷ [] = c.in_ok-push.ensures.items in
    let one : joined_entries c.push.new.self.items ≡ c.args.examples =
    ap joined_entries (items ∙ ap (λ (xs : List (List Entry)). xs ++ c.args.examples ∷ []) c.in_ok-parts.ensures.items)
    ∙ append-nil c.args.examples in
    let ranks = c.in_ok-ranks.ranks.items in
    let P : List (List Entry) → Type 0 = λ ps. AreRising (map (ranked_entry (joined_entries ps)) ranks) in
    let Q : List (List Entry) → Type 0 = λ ps. AreRanks (joined_entries ps) ranks in
    record {
      rising = subst P c.as_slice.ensures.value (subst AreRising (sym c.in_ok-ranks.ensures.rising) (rises (joined_entries c.as_slice.result.now)));
      ranks = subst Q c.as_slice.ensures.value c.in_ok-ranks.ensures.ranks;
      count = c.len-count.ensures.len ∙ ap (λ (xs : List Entry). length xs) (sym one);
    }
