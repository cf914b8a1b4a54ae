use Rattle.lit_valid.proofs.CompletionLemmas.{order_respected}
use Rattle.lit_valid.proofs.laws.orders_of_completions_respect_parts.Goals as goal

pub returns : goal.returns
returns c part x order is ordered = order_respected part x is c.laws_below.ensures.grow order ordered
