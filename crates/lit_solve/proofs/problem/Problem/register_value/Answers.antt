use Rattle.lit_solve.proofs.Words.{box_with}
use Rattle.lit_solve.proofs.ObservationLemmas.{observed_by_read}
use Rattle.lit_solve.proofs.problem.Problem.register_value.Goals as goal

pub returns-in-Some : goal.returns-in-Some
returns-in-Some c =
    observed_by_read (box_with c.args.self.now c.args.domains.now) c.args.name c.in-Some.read c.read_value.result c.in-Some.ensures.value c.read_value.ensures
