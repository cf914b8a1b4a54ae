use Rattle.lit_valid.proofs.CompletionLemmas.{example, example_completes, order_respected}
use Rattle.lit_valid.proofs.laws.whole_parts_are_decided_by_orders.Goals as goal

pub returns : goal.returns
returns c part entered sourced whole = (
  λ some.
      let ordered = some.1.valid.ordered in
      (ordered.0, order_respected part some.0 some.1 c.laws_below.ensures.grow ordered.0 ordered.1),
  λ some. (example part entered c.laws_below.ensures sourced whole, example_completes part entered c.laws_below.ensures sourced whole some.0 some.1),
)
