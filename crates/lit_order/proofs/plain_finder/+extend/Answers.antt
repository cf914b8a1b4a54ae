use Rattle.std.proofs.Common.{rules, arith, below_more, refl, ap, ◌∙◌, ◌≡◌, ℕ, ◌<◌, ◌-◌, [], ◌∷◌, ◌++◌, length}
use Rattle.std.proofs.lemmas.Bool.{false≢true}
use Rattle.lit_rel.specs.EventSet.{HasEvent}
use Rattle.lit_order.specs.Internal.Constrained.{BeginsNone, ComesBefore, IsLeastOf, MayNotStand, constrained_len}
use Rattle.lit_order.proofs.OrderLemmas.{HasNoOrder-cannot, HasNoOrder-from_each, IsLeastFrom-itself, IsLeastFrom-push, IsOrderOf-from_beginning, IsPlaced-next, popped_is}
use Rattle.lit_order.proofs.plain_finder.+extend.Goals as goal
use Rattle.lit_order.proofs.plain_finder.+extend.Goals.{then-can_stand_next+else-extend, else-can_stand_next}

pub returns-then-len-clause-found : goal.returns-then-len-clause-found
returns-then-len-clause-found t c _ =
    let it = c.args.constraints.now in
    IsLeastFrom-itself (constrained_len it) (ComesBefore it) (MayNotStand it) c.args.order.now.items
    (IsOrderOf-from_beginning (constrained_len it) (ComesBefore it) (MayNotStand it) c.args.order.now.items (λ a d h. rw (← it.same) h.first_known) (omega arith) c.requires.begun.begins)

pub extend-requires : goal.extend-requires
extend-requires t c =
    let it = c.args.constraints.now in
    let n = constrained_len it in
    let order = c.args.order.now.items in
    let same_length : length c.loop-event.order.items ≡ length order = ap length c.loop-event.invariant.unchanged in
    let shorter : n - length c.push.new.self.items < n - length order = omega arith in (
      search rules,
      (
        omega arith,
        IsPlaced-next n (ComesBefore it) (MayNotStand it) (HasEvent c.args.placed) order _ c.requires.begun (HasEvent c.with.result) c.loop-event.order.items c.push.new.self.items
            c.loop-event.invariant.unchanged c.push.ensures.items (omega arith) (c.if-can_stand_next.ensures.0 refl) c.with.ensures,
      ),
    )

pub returns-then-extend-clause-found : goal.returns-then-extend-clause-found
returns-then-extend-clause-found t c _ =
    let it = c.args.constraints.now in
    let order = c.args.order.now.items in
    let event = c.loop-event.event in
    let least : IsLeastOf it (order ++ event ∷ []) c.extend.new.order.items = rw (c.push.ensures.items, c.loop-event.invariant.unchanged) at (c.if-extend.ensures.found refl) in
    IsLeastFrom-push (constrained_len it) (ComesBefore it) (MayNotStand it) order event c.extend.new.order.items (omega arith) c.loop-event.invariant.none least

pub loop-event-preserved : goal.loop-event-preserved
loop-event-preserved t c =
    let it = c.args.constraints.now in
    let order = c.args.order.now.items in
    let event = c.loop-event.event in
    let unchanged = c.loop-event.invariant.unchanged in
    let NoneAt : ℕ → Type 0 = λ e. BeginsNone it (order ++ e ∷ []) in
    elim c.if-can_stand_next.branch [
      | then-can_stand_next+else-extend w ↦
          let none : NoneAt event = rw (w.push.ensures.items, unchanged) at (w.if-extend.ensures.none false≢true) in
          record {
            unchanged = ap (λ v. v.items) w.order-is ∙ popped_is order c.loop-event.order.items w.push.new.self.items w.extend.new.order.items w.pop.new.self.items event
                unchanged w.push.ensures.items (w.if-extend.ensures.unchanged false≢true) w.pop.ensures.rest;
            none = below_more NoneAt event c.loop-event.invariant.none none;
          }
      | else-can_stand_next w ↦
          record {
            unchanged = ap (λ v. v.items) w.order-is ∙ unchanged;
            none = below_more NoneAt event c.loop-event.invariant.none
                (HasNoOrder-cannot (constrained_len it) (ComesBefore it) (MayNotStand it) (HasEvent c.args.placed) order event c.requires.begun (λ x r v f. f.read_known) (λ can. false≢true (w.if-can_stand_next.ensures.1 can)));
          }
    ]

pub returns-clause-none : goal.returns-clause-none
returns-clause-none t c _ =
    HasNoOrder-from_each (constrained_len c.args.constraints.now) (ComesBefore c.args.constraints.now) (MayNotStand c.args.constraints.now) c.args.order.now.items (omega arith)
    (λ e h. c.loop-event.invariant.none e (omega arith))
