use Rattle.lit_solve.proofs.Words.{◌-◌, box_with, byte_reads, events_on, HasRoom, length}
use Rattle.lit_solve.proofs.ObservationLemmas.{IsComposedOn}
use Rattle.lit_solve.proofs.problem.Problem.read_value.Given as goal

abbrev pub invariant-bytes : goal.invariant-bytes
invariant-bytes l = record {
  room : HasRoom (events_on l.self) l.read l.place l.taken;
  composed : IsComposedOn (box_with l.self l.domains) l.read l.place l.taken;
}

abbrev pub decreases-bytes : goal.decreases-bytes
decreases-bytes l = length (byte_reads (events_on l.self)) - l.place
