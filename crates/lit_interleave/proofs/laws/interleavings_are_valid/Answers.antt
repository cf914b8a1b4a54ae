use Rattle.lit_interleave.proofs.RunsInTurn.{has_execution}
use Rattle.lit_interleave.proofs.laws.interleavings_are_valid.Goals as goal

pub returns : goal.returns
returns c = has_execution c.byte_reads_are_of_events.ensures c.sequential_executions_are_valid.ensures
