use Rattle.lit_rel.specs.Between.{Forbids}
use Rattle.lit_rel.specs.Rows.{Holds, rows_len}
use Rattle.lit_order.proofs.ForcedLemmas.{respects_forced}
use Rattle.lit_order.proofs.ForcingLemmas.{Forbids-below}
use Rattle.lit_order.proofs.laws.orders_respect_what_is_forced.Goals as goal

pub returns : goal.returns
returns c before between same = respects_forced (rows_len before) (Holds before) (Forbids between) (Forbids-below (rows_len before) between same)
