use Rattle.lit_solve.proofs.Words.{box_of, inl}
use Rattle.lit_solve.proofs.problem.Problem.propagate.Goals as goal

pub returns-clause-none : goal.returns-clause-none
returns-clause-none c failed x is =
    c.refuted_boxes_have_no_completion.ensures (box_of c.args.self.now c.propagation.frame) x c.propagation.invariant.contained.is_box
    (inl (c.force.ensures.cycle c.propagation-test.false)) (c.propagation.invariant.prunes.retained x is)
