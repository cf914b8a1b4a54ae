use Rattle.lit_solve.proofs.Words.{arith, box_with, common_steps, sym, ◌∙◌}
use Rattle.lit_solve.proofs.RegisterLemmas.{decided_by_read, decided_unwritten}
use Rattle.lit_solve.proofs.problem.Problem.register_is.Goals as goal

pub returns-in-Some : goal.returns-in-Some
returns-in-Some c = grind (arith, common_steps, decided_by_read, c.laws_below.ensures, c.requires)

pub returns-in-None : goal.returns-in-None
returns-in-None c =
    decided_unwritten c.laws_below.ensures (box_with c.args.self.now c.args.domains.now) c.requires c.args.agent c.args.reg c.args.value
    (sym c.observed_read.ensures.value ∙ c.in-None.is)
