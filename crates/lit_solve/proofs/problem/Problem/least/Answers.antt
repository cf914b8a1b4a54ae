use Rattle.lit_solve.proofs.Words.{box_of, false, false≢true, IfNone, is_some, None, Option, Some, sym, ℕ, ◌≡◌}
use Rattle.lit_solve.proofs.FillLemmas.{order_given}
use Rattle.lit_solve.proofs.LeastLemmas.{least_found}
use Rattle.lit_solve.proofs.problem.Problem.least.Goals as goal

leaf_of : {P : Type 0} (found : Option ℕ) → is_some found ≡ false → IfNone found P → P
leaf_of None _ leaf = leaf
leaf_of (Some _) never _ = absurd (false≢true (sym never))

pub leaf_order-requires-clause-leaf : goal.leaf_order-requires-clause-leaf
leaf_order-requires-clause-leaf c = leaf_of c.branch-self.result c.if-is_none.ensures c.branch-self.ensures.leaf

pub returns-in-Some : goal.returns-in-Some
returns-in-Some c =
    let new = box_of c.args.self.now c.find_least.new.frame in
    least_found (box_of c.args.self.now c.args.frame.now) new c.args.goal (c.find_least.ensures.lowest c.if-not-find_least.false) (c.find_least.ensures.alone c.if-not-find_least.false)
    (c.find_least.ensures.found c.if-not-find_least.false) c.sources_of.result.items c.sources_of.ensures.one_each c.sources_of.ensures.within
    (c.find_least.ensures.fixpoint c.if-not-find_least.false).exact.contained.is_box (c.leaves_have_one_order.ensures new) c.in-Some.order.items c.in-Some.ensures.found

pub returns-in-None : goal.returns-in-None
returns-in-None c _ =
    let found = c.find_least.ensures.found c.if-not-find_least.false in
    let order = order_given (box_of c.args.self.now c.find_least.new.frame) found.0 found.1.completes in c.in-None.ensures.none order.0 order.1
