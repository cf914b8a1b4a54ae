use Rattle.lit_search.proofs.Words.{Bool, boxed_slice_items, entries_in, HasOutcome, IsTrue, subst, sym, ◌↔◌}
use Rattle.lit_search.proofs.RisenEntries.{lookup_finds}
use Rattle.lit_search.proofs.found.examples.ExamplesOutcomeTable.has.Goals as goal

pub returns : goal.returns
returns c =
    let Q : Bool → Type 0 = λ b. IsTrue b ↔ HasOutcome (entries_in c.self.inside) c.args.outcome.now in
    rw (← c.self.view_is) (subst Q (sym c.contains_key.ensures) (lookup_finds boxed_slice_items (λ x. x.choice) (λ x. x.order.items) c.args.outcome.now c.self.inside.by_outcome.entries))
