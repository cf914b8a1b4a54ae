use Rattle.lit_solve.proofs.Words.{ap, arith, box_with, common_steps, Event, length, List}
use Rattle.lit_solve.proofs.PruningLemmas.{source_known}
use Rattle.lit_solve.proofs.problem.Problem.storing.Goals as goal

pub storing-requires-clause-known : goal.storing-requires-clause-known
storing-requires-clause-known c w there =
    let known = source_known (box_with c.args.self.now c.args.domains.now) c.requires.is_box c.args.place w c.requires.place there in
    omega (arith, known, ap (λ (es : List Event). length es) c.events.ensures.value)

pub returns : goal.returns
returns c w = grind (arith, common_steps, c.storing.ensures)
