use Rattle.lit_solve.proofs.Words.{below_more, box_with, CanFill}
use Rattle.lit_solve.proofs.problem.Problem.can_fill_each.Goals as goal

pub loop-read-preserved : goal.loop-read-preserved
loop-read-preserved c =
    below_more (λ r. CanFill (box_with c.args.self.now c.args.domains.now) r) c.loop-read.read c.loop-read.invariant
    (c.can_fill.ensures.0 c.if-not-can_fill.false)
