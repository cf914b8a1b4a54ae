use Rattle.lit_solve.proofs.Words.{box_of, box_with}
use Rattle.lit_solve.proofs.LeastLemmas.{least_told}
use Rattle.lit_solve.proofs.solver.least.Goals as goal

pub returns-in-Some : goal.returns-in-Some
returns-in-Some c =
    least_told (box_with c.args.problem.now c.args.domains.now) (box_of c.args.problem.now c.in-Some.frame) c.args.goal c.in-Some.ensures.prunes
    c.least.result (λ one. one.sources.items) (λ one. one.order.items) c.least.ensures
