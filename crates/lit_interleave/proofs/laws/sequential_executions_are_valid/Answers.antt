use Rattle.lit_interleave.proofs.SequentialLemmas.{valid_in_order}
use Rattle.lit_interleave.proofs.laws.sequential_executions_are_valid.Goals as goal

pub returns : goal.returns
returns c = valid_in_order c.byte_reads_are_of_events.ensures
