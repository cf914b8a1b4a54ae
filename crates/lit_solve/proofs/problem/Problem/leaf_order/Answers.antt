use Rattle.lit_solve.proofs.Words.{box_of, false≢true, sym, ◌∙◌}
use Rattle.lit_solve.proofs.LeafLemmas.{fills_each, independent_if, no_false_unwritten, none_if}
use Rattle.lit_solve.proofs.LeastLemmas.{ordered_if}
use Rattle.lit_solve.proofs.problem.Problem.leaf_order.Goals as goal

pub returns-then-has_false_unwritten-clause-none : goal.returns-then-has_false_unwritten-clause-none
returns-then-has_false_unwritten-clause-none c x is =
    let box = box_of c.args.self.now c.args.frame.now in
    no_false_unwritten box c.args.frame.now c.requires.fixpoint c.requires.leaf (c.leaves_are_filled_read_by_read.ensures box)
    (x, record { completes = is; meets = tt }) (c.has_false_unwritten.ensures.0 c.if-has_false_unwritten.true)

pub returns-then-not-can_fill_each-clause-none : goal.returns-then-not-can_fill_each-clause-none
returns-then-not-can_fill_each-clause-none c x is =
    let box = box_of c.args.self.now c.args.frame.now in
    false≢true (sym c.if-not-can_fill_each.true ∙ c.can_fill_each.ensures.1
    (fills_each box c.args.frame.now c.requires.fixpoint c.requires.leaf (c.leaves_are_filled_read_by_read.ensures box) (x, record { completes = is; meets = tt })))

pub returns-clause-independent : goal.returns-clause-independent
returns-clause-independent c =
    let box = box_of c.args.self.now c.args.frame.now in
    independent_if box c.args.frame.now c.requires.fixpoint c.requires.leaf (c.leaves_are_filled_read_by_read.ensures box) c.least_order.result
    (λ order. order.items) c.least_order.ensures.found (λ bad. false≢true (sym c.if-has_false_unwritten.false ∙ c.has_false_unwritten.ensures.1 bad))
    (c.reads_are_filled_together.ensures box (c.can_fill_each.ensures.0 c.if-not-can_fill_each.false))

pub returns-clause-least : goal.returns-clause-least
returns-clause-least c =
    let is_box = c.requires.fixpoint.exact.contained.is_box in
    let box = box_of c.args.self.now c.args.frame.now in
    ordered_if box is_box c.requires.leaf (c.leaves_have_one_order.ensures box) c.least_order.result (λ order. order.items) c.least_order.ensures.found

pub returns-clause-none : goal.returns-clause-none
returns-clause-none c =
    let box = box_of c.args.self.now c.args.frame.now in
    none_if box c.args.frame.now c.requires.fixpoint c.requires.leaf (c.leaves_are_filled_read_by_read.ensures box) c.least_order.result
    c.least_order.ensures.none
