use Rattle.std.proofs.Common.{◌≢◌, ◌<◌, ℕ}
use Rattle.lit_syntax.specs.Syntax.{agent_of}
use Rattle.jslit.proofs.interleaving.schedule.agent_named.Given as goal

abbrev pub invariant-loop-agent : goal.invariant-loop-agent
invariant-loop-agent l = (agent : ℕ) → agent < l.agent → (agent_of l.test agent).name ≢ l.name
