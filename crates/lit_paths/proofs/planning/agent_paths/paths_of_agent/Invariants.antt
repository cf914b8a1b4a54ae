use Rattle.lit_syntax.specs.Litmus.{statements_of}
use Rattle.lit_paths.proofs.AgentPaths.{AreFirst}
use Rattle.lit_paths.proofs.planning.agent_paths.paths_of_agent.Given as goal

abbrev pub invariant-loop-number : goal.invariant-loop-number
invariant-loop-number l = AreFirst l.owner (statements_of l.body) l.number l.paths.items
