use Rattle.lit_solve.proofs.Words.{box_of, events_on, Forbids, HappensBeforeIn, Holds, IfNone, IsForbiddenIn, least_of_forced, length, None}
use Rattle.lit_solve.proofs.Words.{none_of_forced, Option, rows_len, Some}
use Rattle.lit_solve.proofs.FrameLemmas.{least_settled, none_settled, triples_below_in}
use Rattle.lit_solve.proofs.problem.Problem.least_order.Goals as goal

any_none : {A P : Type 0} (found : Option A) → P → IfNone found P
any_none None p = p
any_none (Some _) p = tt

pub returns-clause-found : goal.returns-clause-found
returns-clause-found c =
    let box = box_of c.args.self.now c.args.frame.now in
    least_of_forced (length (events_on c.args.self.now)) (rows_len c.args.frame.now.forced.rows) (HappensBeforeIn box)
    (Holds c.args.frame.now.forced.rows) (IsForbiddenIn box) (IsForbiddenIn box) c.requires.contained.forced_len
    (λ a d. (c.requires.contained.forced_in a d, c.requires.forced a d)) (λ w r v. (λ f. f, λ f. f))
    (triples_below_in box c.requires.contained.is_box) c.in_ok-order.order.items
    (least_settled (rows_len c.args.frame.now.forced.rows) c.args.frame.now.forced.rows (IsForbiddenIn box) (Forbids c.put_between.new.between)
    c.put_between.ensures.triples c.in_ok-order.order.items c.in_ok-order.ensures.found)

pub returns-in_err-order-clause-none : goal.returns-in_err-order-clause-none
returns-in_err-order-clause-none c =
    let box = box_of c.args.self.now c.args.frame.now in
    any_none c.from_residual.result (none_of_forced (length (events_on c.args.self.now)) (rows_len c.args.frame.now.forced.rows) (HappensBeforeIn box)
    (Holds c.args.frame.now.forced.rows) (IsForbiddenIn box) (IsForbiddenIn box) c.requires.contained.forced_len
    (λ a d. (c.requires.contained.forced_in a d, c.requires.forced a d)) (λ w r v. (λ f. f, λ f. f))
    (triples_below_in box c.requires.contained.is_box)
    (none_settled (rows_len c.args.frame.now.forced.rows) c.args.frame.now.forced.rows (IsForbiddenIn box) (Forbids c.put_between.new.between)
    c.put_between.ensures.triples c.in_err-order.ensures.none))
