use Rattle.lit_solve.proofs.Words.{arith, box_of}
use Rattle.lit_solve.proofs.BranchingLemmas.{none_is_leaf, best_stays, best_more}
use Rattle.lit_solve.proofs.problem.Problem.branch.Goals as goal
use Rattle.lit_solve.proofs.problem.Problem.branch.Goals.{then-can_force, else-can_force}

pub loop-place-preserved : goal.loop-place-preserved
loop-place-preserved c = grind (arith, best_stays, best_more)

pub returns-clause-leaf : goal.returns-clause-leaf
returns-clause-leaf c =
    none_is_leaf (box_of c.args.self.now c.args.frame.now) c.loop-place.best c.loop-place.place c.loop-place.invariant
    (omega (arith, c.loop-place-test.false, c.reads-place-end.ensures.value))
