use Rattle.lit_solve.proofs.Words.{box_of, sym, ◌∙◌}
use Rattle.lit_solve.proofs.IndependentLemmas.{leaf_decided}
use Rattle.lit_solve.proofs.problem.Problem.has_completion.Goals as goal

pub returns : goal.returns
returns c =
    let box = box_of c.args.self.now c.args.frame.now in
    let decided = leaf_decided box (c.leaves_are_filled_read_by_read.ensures box) c.leaf_order.result c.leaf_order.ensures.independent c.leaf_order.ensures.none in
    ((λ some. decided.0 (sym c.is_some.ensures ∙ some)), (λ has. c.is_some.ensures ∙ decided.1 has))
