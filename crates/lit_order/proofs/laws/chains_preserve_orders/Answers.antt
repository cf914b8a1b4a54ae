use Rattle.lit_rel.specs.Between.{Forbids}
use Rattle.lit_rel.specs.Rows.{Holds, rows_len}
use Rattle.lit_order.specs.Forced.{AndPair, IsBefore, Refuses, forced_len}
use Rattle.lit_order.proofs.SameOrders.{HaveSameOrders-chains}
use Rattle.lit_order.proofs.laws.chains_preserve_orders.Goals as goal

pub returns-clause-opened : goal.returns-clause-opened
returns-clause-opened c before between = HaveSameOrders-chains (rows_len before) (Holds before) (Forbids between)

pub returns-clause-extended : goal.returns-clause-extended
returns-clause-extended c forced a d = HaveSameOrders-chains (forced_len forced) (AndPair (IsBefore forced) a d) (Refuses forced)
