use Rattle.lit_solve.proofs.Words.{arith, common_steps}
use Rattle.lit_solve.proofs.PruningLemmas.{read_known}
use Rattle.lit_why.proofs.cases.given.byte_read.Goals as goal

pub returns-clause-read : goal.returns-clause-read
returns-clause-read c = grind (arith, common_steps, read_known, c.byte_reads_are_of_events.ensures)
