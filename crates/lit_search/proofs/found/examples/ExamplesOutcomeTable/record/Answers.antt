use Rattle.lit_search.proofs.Words.{◌++◌, [], ap, boxed_slice_items, entries_in, Entry, HasOutcome, List, map, subst, sym, ℕ, ◌∙◌, ◌∷◌}
use Rattle.lit_search.proofs.RisenEntries.{entry_of_pair, put_new}
use Rattle.lit_search.proofs.found.examples.ExamplesOutcomeTable.record.Goals as goal

pub returns-clause-ok : goal.returns-clause-ok
returns-clause-ok c =
    let made = c.in_ok-outcome.ensures.ok in
    let old = entries_in c.self.inside in
    let N : List ℕ → Type 0 = λ o. ¬ HasOutcome old o in
    let M : List Entry → Type 0 = λ r. ¬ HasOutcome r c.args.outcome.now in
    let new : ¬ HasOutcome old (boxed_slice_items c.in_ok-outcome.outcome) = subst N (sym made) (subst M (sym c.self.view_is) c.requires) in
    let one : List ℕ → List Entry = λ o. record { outcome = o; choice = c.args.choice; order = c.args.order.items } ∷ [] in
    ap (map (entry_of_pair boxed_slice_items (λ x. x.choice) (λ x. x.order.items))) c.in_ok-insert.ensures.entries
    ∙ put_new boxed_slice_items (λ x. x.choice) (λ x. x.order.items) c.self.inside.by_outcome.entries c.in_ok-outcome.outcome
    (record { choice = c.args.choice; order = c.args.order }) new
    ∙ ap (λ (o : List ℕ). old ++ one o) made
    ∙ ap (λ (r : List Entry). r ++ one c.args.outcome.now) c.self.view_is
