use Rattle.std.proofs.Common.{arith, inl, inr, refl}
use Rattle.std.proofs.lemmas.Bool.{cases_eq, false≢true}
use Rattle.lit_rel.proofs.SetLemmas.{split_less_yet}
use Rattle.lit_order.proofs.constraints.Constraints.next_event.Goals as goal

pub next-init : goal.next-init
next-init c =
    let all = rw c.len.ensures.value at c.below.ensures in
    let left = c.difference-left.ensures in record {
      known = λ e there. (all e).0 ((left e).0 there).0;
      new = λ e there. ((left e).0 there).1;
      none = λ e below not_left can. not_left ((left e).1 ((all e).1 below, can.new));
    }

pub returns-then-can_stand_next : goal.returns-then-can_stand_next
returns-then-can_stand_next c =
    let split = c.in-Some.ensures in
    let known = c.next.invariant.known c.in-Some.event split.there in record {
      known = known;
      can = c.if-can_stand_next.ensures.0 refl;
      least = λ e less. c.next.invariant.none e (omega (arith, less, known)) (split.least e less);
    }

pub next-smaller : goal.next-smaller
next-smaller c =
    split_less_yet c.next.left c.in-Some.event c.in-Some.others c.difference-left-in-Some.result c.in-Some.ensures (λ e there. ((c.difference-left-in-Some.ensures e).0 there).0)

pub next-preserved : goal.next-preserved
next-preserved c =
    let was = c.next.invariant in
    let rest = c.in-Some.ensures.rest in
    let left = c.difference-left-in-Some.ensures in
    let event = c.in-Some.event in record {
      known = λ e h. was.known e ((rest e).0 ((left e).0 h).0).0;
      new = λ e h. was.new e ((rest e).0 ((left e).0 h).0).0;
      none = λ e below not_left can. elim (cases_eq e event) [
        | inl same ↦ false≢true (c.if-can_stand_next.ensures.1 (rw same at can))
        | inr other ↦ was.none e below (λ in_left. not_left ((left e).1 (
          (rest e).1 (in_left, other),
          λ after.
              was.new event c.in-Some.ensures.there (can.follows event ((c.args.self.now.before.now.same.pairs event e).1 ((c.successors.ensures e).0 after))),
        ))) can
      ];
    }
