use Rattle.lit_solve.proofs.Words.{◌-◌, byte_reads, events_on, length}
use Rattle.lit_solve.proofs.problem.Problem.forcing_byte.Given as goal

abbrev pub decreases-bytes : goal.decreases-bytes
decreases-bytes l = length (byte_reads (events_on l.self)) - l.place
