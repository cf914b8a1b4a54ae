use Rattle.lit_solve.proofs.Words.{box_with, inl, inr}
use Rattle.lit_solve.proofs.problem.Problem.fixpoint.Goals as goal

pub returns-then-has_false_unwritten-clause-none : goal.returns-then-has_false_unwritten-clause-none
returns-then-has_false_unwritten-clause-none c x is =
    c.refuted_boxes_have_no_completion.ensures (box_with c.args.self.now c.args.domains.now) x c.requires (inr (inr (inr (inl
    (c.has_false_unwritten.ensures.0 c.if-has_false_unwritten.true))))) is
