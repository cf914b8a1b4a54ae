use Rattle.std.proofs.Common.{List, ◌∙◌, refl, subst}
use Rattle.std.proofs.lemmas.Bool.{false≢true}
use Rattle.lit_rel.specs.Between.{Forbids}
use Rattle.lit_rel.specs.Rows.{Holds, rows_len}
use Rattle.lit_order.specs.Internal.Beginning.{HasNoOrder}
use Rattle.lit_order.specs.Internal.Constrained.{constrained_len, ComesBefore, MayNotStand}
use Rattle.lit_order.proofs.OrderLemmas.{IsLeastOrderOf-from_nothing}
use Rattle.lit_order.proofs.SameOrders.{both, IsLeastOrderOf-same, order_back}
use Rattle.lit_order.proofs.plain_finder.PlainFinderOrderFinder.least_order.Goals as goal

pub returns-then-extend-clause-found : goal.returns-then-extend-clause-found
returns-then-extend-clause-found c =
    let it = c.new-constraints.result in
    IsLeastOrderOf-same (constrained_len it) (rows_len c.args.before.now) (ComesBefore it) (Holds c.args.before.now) (MayNotStand it) (Forbids c.args.between.now) (c.new-constraints.ensures.len ∙ c.converse_of-converse.ensures.len) (λ a e. both (c.new-constraints.ensures.pairs a e) (c.converse_of-converse.ensures.pairs a e)) c.new-constraints.ensures.triples c.extend.new.order.items
    (IsLeastOrderOf-from_nothing (constrained_len it) (ComesBefore it) (MayNotStand it) c.new-order.result.items c.extend.new.order.items c.new-order.ensures (c.if-extend.ensures.found refl))

pub returns-else-extend-clause-none : goal.returns-else-extend-clause-none
returns-else-extend-clause-none c order o =
    let it = c.new-constraints.result in
    subst (λ (xs : List _). HasNoOrder (constrained_len it) (ComesBefore it) (MayNotStand it) xs) c.new-order.ensures (c.if-extend.ensures.none false≢true) order
    (order_back (constrained_len it) (rows_len c.args.before.now) (ComesBefore it) (Holds c.args.before.now) (MayNotStand it) (Forbids c.args.between.now) (c.new-constraints.ensures.len ∙ c.converse_of-converse.ensures.len) (λ a e. both (c.new-constraints.ensures.pairs a e) (c.converse_of-converse.ensures.pairs a e)) c.new-constraints.ensures.triples order o)
