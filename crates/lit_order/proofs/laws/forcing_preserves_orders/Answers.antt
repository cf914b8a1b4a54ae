use Rattle.lit_rel.specs.Between.{Forbids}
use Rattle.lit_rel.specs.Rows.{Holds, rows_len}
use Rattle.lit_order.specs.Forcing.{IsForced}
use Rattle.lit_order.proofs.ExtendLemmas.{order_from_forced, order_of_forced}
use Rattle.lit_order.proofs.ForcingLemmas.{Forbids-below}
use Rattle.lit_order.proofs.laws.forcing_preserves_orders.Goals as goal

pub returns : goal.returns
returns c before between same order =
    let triples = Forbids-below (rows_len before) between same in
    let forced = IsForced (Holds before) (Forbids between) in (
      order_of_forced (rows_len before) (Holds before) (Forbids between) triples forced (λ a d. ((λ h. h), (λ h. h))) order,
      order_from_forced (rows_len before) (Holds before) (Forbids between) triples forced (λ a d. ((λ h. h), (λ h. h))) order,
    )
