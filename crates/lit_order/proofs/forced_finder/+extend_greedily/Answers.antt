use Rattle.std.proofs.Common.{rules, arith, ◌<◌, ◌-◌, ◌∷◌, ◌++◌, [], length, refl}
use Rattle.lit_rel.specs.EventSet.{HasEvent}
use Rattle.lit_order.specs.Internal.Constrained.{ComesBefore, IsLeastOf, MayNotStand, constrained_len}
use Rattle.lit_order.proofs.OrderLemmas.{HasNoOrder-cannot, IsLeastFrom-itself, IsLeastFrom-push, IsOrderOf-from_beginning, IsPlaced-next}
use Rattle.lit_order.proofs.forced_finder.+extend_greedily.Goals as goal

pub returns-then-len : goal.returns-then-len
returns-then-len t c _ =
    let it = c.args.constraints.now in
    IsLeastFrom-itself (constrained_len it) (ComesBefore it) (MayNotStand it) c.args.order.now.items
    (IsOrderOf-from_beginning (constrained_len it) (ComesBefore it) (MayNotStand it) c.args.order.now.items (λ a d h. rw (← it.same) h.first_known) (omega arith) c.requires.begun.begins)

pub extend_greedily-requires : goal.extend_greedily-requires
extend_greedily-requires t c =
    let it = c.args.constraints.now in
    let n = constrained_len it in
    let order = c.args.order.now.items in
    let next = c.in-Some.ensures in
    let shorter : n - length c.push.new.self.items < n - length order = omega (arith, next.known) in (
      search rules,
      (
        omega arith,
        IsPlaced-next n (ComesBefore it) (MayNotStand it) (HasEvent c.args.placed) order c.in-Some.event c.requires.begun (HasEvent c.with.result) order c.push.new.self.items
            refl c.push.ensures.items next.known next.can c.with.ensures,
      ),
    )

pub returns : goal.returns
returns t c found =
    let it = c.args.constraints.now in
    let order = c.args.order.now.items in
    let event = c.in-Some.event in
    let next = c.in-Some.ensures in
    let least : IsLeastOf it (order ++ event ∷ []) c.extend_greedily.new.order.items = rw c.push.ensures.items at (c.extend_greedily.ensures found) in
    IsLeastFrom-push (constrained_len it) (ComesBefore it) (MayNotStand it) order event c.extend_greedily.new.order.items (omega arith)
    (λ e less. HasNoOrder-cannot (constrained_len it) (ComesBefore it) (MayNotStand it) (HasEvent c.args.placed) order e c.requires.begun (λ x r v f. f.read_known) (next.least e less)) least
