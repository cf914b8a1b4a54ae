use Rattle.std.proofs.Common.{[]}
use Rattle.lit_rel.specs.Internal.PrefixStates.{IsOrder}
use Rattle.lit_rel.proofs.part.Part.open.Goals as goal

pub new-prefix_state-requires-clause-before : goal.new-prefix_state-requires-clause-before
new-prefix_state-requires-clause-before c =
    let start = c.unsourced_order-before in
    let order : IsOrder c.events.result.now [] start.result.rows = record { len = start.ensures.len; pairs = start.ensures.pairs } in
    rw (c.as_slice.ensures.value, c.new-bytes.ensures) (rw c.events.ensures.value at order)
