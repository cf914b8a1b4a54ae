use Rattle.std.proofs.Common.{◌≡◌, map, take}
use Rattle.lit_paths.specs.Internal.Combining.{all_path_models}
use Rattle.lit_paths.proofs.planning.agent_paths.AgentPaths.new.Given as goal

abbrev pub invariant-loop-agent : goal.invariant-loop-agent
invariant-loop-agent l = map (λ paths. paths.items) l.lists.items ≡ all_path_models 0 (take l.agent l.test.agents)
