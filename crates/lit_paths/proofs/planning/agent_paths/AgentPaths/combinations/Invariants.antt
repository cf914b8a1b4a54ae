use Rattle.std.proofs.Common.{◌≡◌, ◌*◌, drop}
use Rattle.lit_paths.specs.Internal.Walks.{count_of}
use Rattle.lit_paths.proofs.planning.agent_paths.AgentPaths.combinations.Given as goal

abbrev pub invariant-loop-agent : goal.invariant-loop-agent
invariant-loop-agent l = l.count * count_of (drop l.agent l.self.agents) ≡ count_of l.self.agents
