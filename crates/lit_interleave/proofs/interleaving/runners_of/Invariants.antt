use Rattle.lit_interleave.proofs.Words.{map, take, ◌≡◌}
use Rattle.lit_interleave.proofs.MomentLemmas.{at_first}
use Rattle.lit_interleave.proofs.interleaving.runners_of.Given as goal

abbrev pub invariant-loop-agent : goal.invariant-loop-agent
invariant-loop-agent l = l.runners.items ≡ map at_first (take l.agent l.test.agents)
