use Rattle.lit_search.proofs.Words.{boxed_slice_items}
use Rattle.lit_search.proofs.RisenEntries.{IsDistinct-entry_of_pair}
use Rattle.lit_search.proofs.found.examples.Examples.len.Goals as goal

pub returns-clause-distinct : goal.returns-clause-distinct
returns-clause-distinct c = rw (← c.self.view_is) (IsDistinct-entry_of_pair boxed_slice_items (λ x. x.choice) (λ x. x.order.items) c.self.inside.by_outcome.entries c.len.ensures.unique)
