use Rattle.lit_search.proofs.Words.{ap, boxed_slice_items, Entry, List, map, sym, take, take-map, ◌∙◌}
use Rattle.lit_search.proofs.RisenEntries.{entry_of_pair}
use Rattle.lit_search.proofs.found.examples.Examples.truncate.Goals as goal

pub returns : goal.returns
returns c =
    ap (map (entry_of_pair boxed_slice_items (λ x. x.choice) (λ x. x.order.items))) c.truncate.ensures.entries
    ∙ sym (take-map (entry_of_pair boxed_slice_items (λ x. x.choice) (λ x. x.order.items)) c.args.len c.self.inside.by_outcome.entries)
    ∙ ap (λ (es : List Entry). take c.args.len es) c.self.view_is
