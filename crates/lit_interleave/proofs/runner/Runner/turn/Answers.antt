use Rattle.lit_interleave.proofs.Words.{length}
use Rattle.lit_interleave.proofs.runner.Runner.turn.Goals as goal

pub carry_out-requires-clause-said : goal.carry_out-requires-clause-said
carry_out-requires-clause-said c = ((rw c.in-Some.is at c.in_ok-access.ensures).next.said (length c.args.block.now) c.requires).0
