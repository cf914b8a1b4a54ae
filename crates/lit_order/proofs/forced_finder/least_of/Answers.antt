use Rattle.std.proofs.Common.{◌≡◌, ◌↔◌, ℕ, List, [], ◌∙◌, refl, sym, subst}
use Rattle.std.proofs.lemmas.Bool.{false≢true}
use Rattle.lit_rel.specs.Between.{BetweenModel, Forbids}
use Rattle.lit_rel.specs.Rows.{Holds, rows_len}
use Rattle.lit_order.specs.declared.constraints.Constraints.{Constraints}
use Rattle.lit_rel.specs.declared.rows.two_way_rows.TwoWayRows.{TwoWayRows}
use Rattle.lit_order.specs.Internal.Constrained.{BeginsNone, ComesBefore, IsLeastOf, MayNotStand, constrained_len}
use Rattle.lit_order.specs.Internal.Restricted.{IsRestricted}
use Rattle.lit_order.specs.MemoryOrder.{IsLeastOrderOf, IsOrderOf}
use Rattle.lit_order.proofs.RestrictionLemmas.{IsRestricted-nil}
use Rattle.lit_order.proofs.OrderLemmas.{IsLeastOrderOf-from_nothing}
use Rattle.lit_order.proofs.SameOrders.{both, IsLeastOrderOf-same, order_back}
use Rattle.lit_order.proofs.forced_finder.least_of.Goals as goal

-- the constraints ask what a relation and triples ask
module _ (forced : TwoWayRows) (between : BetweenModel) (it : Constraints) (len : constrained_len it ≡ rows_len forced.converse) (pairs : (a d : ℕ) → ComesBefore it a d ↔ Holds forced.converse d a) (triples : (w r v : ℕ) → MayNotStand it w r v ↔ Forbids between w r v) where
  are_pairs : (a d : ℕ) → ComesBefore it a d ↔ Holds forced.rows a d
  are_pairs a d = both (pairs a d) (forced.same.pairs a d)

  least : (start order : List ℕ) → start ≡ [] → IsLeastOf it start order → IsLeastOrderOf (rows_len forced.rows) (Holds forced.rows) (Forbids between) order
  least start order empty from_start =
      IsLeastOrderOf-same (constrained_len it) (rows_len forced.rows) (ComesBefore it) (Holds forced.rows) (MayNotStand it) (Forbids between) (len ∙ forced.same.len) are_pairs triples order
      (IsLeastOrderOf-from_nothing (constrained_len it) (ComesBefore it) (MayNotStand it) start order empty from_start)

  none : (start : List ℕ) → start ≡ [] → BeginsNone it start → (order : List ℕ) → ¬ IsOrderOf (rows_len forced.rows) (Holds forced.rows) (Forbids between) order
  none start empty from_start order o =
      subst (λ (xs : List ℕ). BeginsNone it xs) empty from_start order
      (order_back (constrained_len it) (rows_len forced.rows) (ComesBefore it) (Holds forced.rows) (MayNotStand it) (Forbids between) (len ∙ forced.same.len) are_pairs triples order o)

pub returns-then-extend_greedily-clause-found : goal.returns-then-extend_greedily-clause-found
returns-then-extend_greedily-clause-found c =
    let it = c.new-constraints.result in
    least c.args.forced.now c.args.between.now it c.new-constraints.ensures.len c.new-constraints.ensures.pairs c.new-constraints.ensures.triples c.new-greedy.result.items c.extend_greedily.new.order.items c.new-greedy.ensures (c.if-extend_greedily.ensures refl)

pub complete-requires-clause-restricted : goal.complete-requires-clause-restricted
complete-requires-clause-restricted c =
    let it = c.new-constraints.result in
    let pairs = are_pairs c.args.forced.now c.args.between.now it c.new-constraints.ensures.len c.new-constraints.ensures.pairs c.new-constraints.ensures.triples in
    let rows = Holds c.args.forced.now.rows in
    subst (λ (xs : List ℕ). IsRestricted (constrained_len it) (ComesBefore it) (MayNotStand it) rows xs) (sym c.new-order.ensures)
    (IsRestricted-nil (constrained_len it) (ComesBefore it) (MayNotStand it) rows (λ a d. ((pairs a d).1, (pairs a d).0)))

pub returns-then-complete-clause-found : goal.returns-then-complete-clause-found
returns-then-complete-clause-found c =
    let it = c.new-constraints.result in
    least c.args.forced.now c.args.between.now it c.new-constraints.ensures.len c.new-constraints.ensures.pairs c.new-constraints.ensures.triples c.new-order.result.items c.complete.new.order.items c.new-order.ensures (c.if-complete.ensures.found refl)

pub returns-else-complete-clause-none : goal.returns-else-complete-clause-none
returns-else-complete-clause-none c order o =
    let it = c.new-constraints.result in
    none c.args.forced.now c.args.between.now it c.new-constraints.ensures.len c.new-constraints.ensures.pairs c.new-constraints.ensures.triples c.new-order.result.items c.new-order.ensures (c.if-complete.ensures.none false≢true) order o
