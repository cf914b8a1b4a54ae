use Rattle.std.proofs.Common.{rules, arith, below_more, refl, ap, ◌∙◌, ◌≡◌, ◌⊎◌, ◌↔◌, ℕ, ◌<◌, ◌-◌, List, [], ◌∷◌, ◌++◌, length}
use Rattle.std.proofs.lemmas.Bool.{false≢true}
use Rattle.lit_rel.specs.declared.rows.Rows.{Rows}
use Rattle.lit_rel.specs.EventSet.{HasEvent}
use Rattle.lit_rel.specs.Rows.{rows_len, Holds}
use Rattle.lit_order.specs.declared.constraints.Constraints.{Constraints}
use Rattle.lit_order.specs.Internal.Beginning.{CanStandNext, Stands}
use Rattle.lit_order.specs.Internal.Constrained.{BeginsNone, ComesBefore, IsLeastOf, MayNotStand, constrained_len}
use Rattle.lit_order.specs.Internal.Restricted.{IsRestricted}
use Rattle.lit_order.proofs.OrderLemmas.{HasNoOrder-cannot, HasNoOrder-from_each, IsLeastFrom-itself, IsLeastFrom-push, IsOrderOf-from_beginning, IsPlaced-next}
use Rattle.lit_order.proofs.RestrictionLemmas.{IsRestricted-next, PutsNext-from_placed, HasNoOrder-restriction, not_HasNoOrder}
use Rattle.lit_order.proofs.forced_finder.+complete.Goals as goal
use Rattle.lit_order.proofs.forced_finder.+complete.Goals.{then-can_stand_next+else-has_order, else-can_stand_next}

-- an event that can stand next, put before all that are not placed, restricts the orders to those that go on with it
restricted_next : (it : Constraints) (restriction next : Rows) (order : List ℕ) (event : ℕ) (placed more : ℕ → Type 0)
    → rows_len restriction ≡ constrained_len it → event < constrained_len it → ((e : ℕ) → placed e ↔ Stands order e) → CanStandNext (ComesBefore it) (MayNotStand it) placed event
    → ((e : ℕ) → more e ↔ (placed e ⊎ (e ≡ event))) → ((a d : ℕ) → Holds next a d ↔ (Holds restriction a d ⊎ ((a ≡ event) × (d < rows_len restriction) × ¬ more d)))
    → IsRestricted (constrained_len it) (ComesBefore it) (MayNotStand it) (Holds restriction) order
    → IsRestricted (constrained_len it) (ComesBefore it) (MayNotStand it) (Holds next) (order ++ event ∷ [])
restricted_next it restriction next order event placed more len within is_placed can with_event pairs restricted =
    IsRestricted-next (constrained_len it) (ComesBefore it) (MayNotStand it) (Holds restriction) (Holds next) order event within (λ s. can.new ((is_placed event).1 s))
    (PutsNext-from_placed (constrained_len it) (rows_len restriction) (Holds restriction) (Holds next) order event placed more len is_placed with_event pairs) restricted

pub returns-then-len-clause-found : goal.returns-then-len-clause-found
returns-then-len-clause-found t c _ =
    let it = c.args.constraints.now in
    IsLeastFrom-itself (constrained_len it) (ComesBefore it) (MayNotStand it) c.args.order.now.items
    (IsOrderOf-from_beginning (constrained_len it) (ComesBefore it) (MayNotStand it) c.args.order.now.items (λ a d h. rw (← it.same) h.first_known) (omega arith) c.requires.begun.begins)

pub complete-requires : goal.complete-requires
complete-requires t c =
    let it = c.args.constraints.now in
    let n = constrained_len it in
    let order = c.args.order.now.items in
    let placed = HasEvent c.args.placed in
    let unchanged = c.loop-event.invariant.unchanged in
    let can = c.if-can_stand_next.ensures.0 refl in
    let same_length : length c.loop-event.order.items ≡ length order = ap length unchanged in
    let shorter : n - length c.push.new.self.items < n - length order = omega arith in
    let next = restricted_next it c.args.restriction.now c.placed_next-next.result order c.loop-event.event placed (HasEvent c.with.result) c.requires.len (omega arith)
    c.requires.begun.events can c.with.ensures c.placed_next-next.ensures.pairs c.requires.restricted in (
      search rules,
      (
        omega arith,
        (
          IsPlaced-next n (ComesBefore it) (MayNotStand it) placed order c.loop-event.event c.requires.begun (HasEvent c.with-then-has_order.result) c.loop-event.order.items c.push.new.self.items
              unchanged c.push.ensures.items (omega arith) can c.with-then-has_order.ensures,
          (c.placed_next-next.ensures.len ∙ c.requires.len, rw (c.push.ensures.items, unchanged) next),
        ),
      ),
    )

pub returns-then-has_order-clause-found : goal.returns-then-has_order-clause-found
returns-then-has_order-clause-found t c found =
    let it = c.args.constraints.now in
    let order = c.args.order.now.items in
    let least : IsLeastOf it (order ++ c.loop-event.event ∷ []) c.complete.new.order.items = rw (c.push.ensures.items, c.loop-event.invariant.unchanged) at (c.complete.ensures.found found) in
    IsLeastFrom-push (constrained_len it) (ComesBefore it) (MayNotStand it) order c.loop-event.event c.complete.new.order.items (omega arith) c.loop-event.invariant.none least

pub returns-then-has_order-clause-none : goal.returns-then-has_order-clause-none
returns-then-has_order-clause-none t c not_found =
    let it = c.args.constraints.now in
    let order = c.args.order.now.items in
    let event = c.loop-event.event in
    let next = restricted_next it c.args.restriction.now c.placed_next-next.result order event (HasEvent c.args.placed) (HasEvent c.with.result) c.requires.len (omega arith) c.requires.begun.events
    (c.if-can_stand_next.ensures.0 refl) c.with.ensures c.placed_next-next.ensures.pairs c.requires.restricted in
    absurd (not_HasNoOrder (constrained_len it) (rows_len c.placed_next-next.result) (ComesBefore it) (MayNotStand it) (Holds c.placed_next-next.result) (order ++ event ∷ [])
    (c.placed_next-next.ensures.len ∙ c.requires.len) next (rw c.between.ensures at (c.if-has_order.ensures.0 refl))
    (rw (c.push.ensures.items, c.loop-event.invariant.unchanged) at (c.complete.ensures.none not_found)))

pub loop-event-preserved : goal.loop-event-preserved
loop-event-preserved t c =
    let it = c.args.constraints.now in
    let order = c.args.order.now.items in
    let event = c.loop-event.event in
    let NoneAt : ℕ → Type 0 = λ e. BeginsNone it (order ++ e ∷ []) in
    let here : NoneAt event = elim c.if-can_stand_next.branch [
      | then-can_stand_next+else-has_order w ↦
          let next = restricted_next it c.args.restriction.now w.placed_next-next.result order event (HasEvent c.args.placed) (HasEvent w.with.result) c.requires.len (omega arith) c.requires.begun.events
          (w.if-can_stand_next.ensures.0 refl) w.with.ensures w.placed_next-next.ensures.pairs c.requires.restricted in
          HasNoOrder-restriction (constrained_len it) (rows_len w.placed_next-next.result) (ComesBefore it) (MayNotStand it) (Holds w.placed_next-next.result) (order ++ event ∷ [])
          (w.placed_next-next.ensures.len ∙ c.requires.len) next (λ some. false≢true (w.if-has_order.ensures.1 (rw w.between.ensures some)))
      | else-can_stand_next w ↦
          HasNoOrder-cannot (constrained_len it) (ComesBefore it) (MayNotStand it) (HasEvent c.args.placed) order event c.requires.begun (λ x r v f. f.read_known) (λ can. false≢true (w.if-can_stand_next.ensures.1 can))
    ] in
    record { unchanged = c.loop-event.invariant.unchanged; none = below_more NoneAt event c.loop-event.invariant.none here }

pub returns-clause-none : goal.returns-clause-none
returns-clause-none t c _ =
    HasNoOrder-from_each (constrained_len c.args.constraints.now) (ComesBefore c.args.constraints.now) (MayNotStand c.args.constraints.now) c.args.order.now.items (omega arith)
    (λ e h. c.loop-event.invariant.none e (omega arith))
