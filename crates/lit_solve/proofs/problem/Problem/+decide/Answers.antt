use Rattle.lit_solve.proofs.Words.{◌+◌, arith, box_with, common_steps, Cond, condition_of, drop, holds-All, holds-Any, IsAskedAt, member_holds}
use Rattle.lit_solve.proofs.Words.{subst, sym}
use Rattle.lit_solve.proofs.ConditionLemmas.{asked_in_all, asked_in_any, differs, IsAllLeft, IsAnyLeft, met_by_one, negated, unmet_by_one, values_of}
use Rattle.lit_solve.proofs.problem.Problem.+decide.Goals.{in-Known-false, in-Known-true-decide, in-Open, in-Open-decide}
use Rattle.lit_solve.proofs.problem.Problem.+decide.Goals as goal

pub any-init : goal.any-init
any-init t c sources lie = grind (arith, common_steps, holds-Any, member_holds, values_of)

pub all-init : goal.all-init
all-init t c sources lie = grind (arith, common_steps, holds-All, member_holds, values_of)

pub returns-in-Known-true : goal.returns-in-Known-true
returns-in-Known-true t c sources lie =
    grind (arith, common_steps, met_by_one, values_of, c.deref-member-items.ensures.value, c.in-Known-true.ensures)

pub returns-in-Known-false-decide : goal.returns-in-Known-false-decide
returns-in-Known-false-decide t c sources lie =
    grind (arith, common_steps, unmet_by_one, values_of, c.deref-member-items-in-All.ensures.value, c.in-Known-false-decide.ensures)

pub any-preserved : goal.any-preserved
any-preserved t c =
    let box = box_with c.args.self.now c.args.domains.now in
    let items = c.deref-member-items.result.now in
    elim c.match-decide.branch [
      | in-Known-false w ↦ grind (arith, common_steps)
      | in-Open w ↦
          subst (IsAnyLeft box (condition_of c.args.condition.now) (drop (c.any.member-index + 1) items)) (sym w.decided-is) (
            w.in-Open.ensures.0,
            subst (λ (cond : Cond). IsAskedAt box (condition_of cond) w.in-Open.place) (sym c.in-Any.is)
                (asked_in_any c.in-Any.members items c.deref-member-items.ensures.value c.any.member-index c.member-item.result (omega arith)
                c.member-item.is box w.in-Open.place w.in-Open.ensures.1),
          )
    ]

pub all-preserved : goal.all-preserved
all-preserved t c =
    let box = box_with c.args.self.now c.args.domains.now in
    let items = c.deref-member-items-in-All.result.now in
    elim c.match-decide-2.branch [
      | in-Known-true-decide w ↦ grind (arith, common_steps)
      | in-Open-decide w ↦
          subst (IsAllLeft box (condition_of c.args.condition.now) (drop (c.all.member-index + 1) items)) (sym w.decided-is) (
            w.in-Open-decide.ensures.0,
            subst (λ (cond : Cond). IsAskedAt box (condition_of cond) w.in-Open-decide.place) (sym c.in-All.is)
                (asked_in_all c.in-All.members items c.deref-member-items-in-All.ensures.value c.all.member-index c.member-item-in-all.result
                (omega arith) c.member-item-in-all.is box w.in-Open-decide.place w.in-Open-decide.ensures.1),
          )
    ]

pub returns-in-Not : goal.returns-in-Not
returns-in-Not t c = grind (arith, common_steps, negated, c.in-Not.is, c.opposite.ensures, c.decide-in-Not.ensures)

pub returns-else-equal : goal.returns-else-equal
returns-else-equal t c = grind (arith, common_steps, differs, c.in-Is.is, c.if-equal.false, c.opposite-else-equal.ensures, c.register_is-decided.ensures)
