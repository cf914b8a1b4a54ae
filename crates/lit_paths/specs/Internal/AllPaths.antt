-- The invariant of the saved paths of a test's agents.
use Rattle.std.specs.Prelude.{◌≡◌, map}
use Rattle.lit_paths.specs.declared.planning.agent_paths.AgentPaths.TheInside.{Inside}
use Rattle.lit_paths.specs.Internal.Walks.{IsInLimits}
use Rattle.lit_paths.specs.Internal.Combining.{all_path_models}

pub record AreAllPaths (p : Inside) : Type 0 where
  pub limits : IsInLimits p.test.now
  pub all : map (λ paths. paths.items) p.lists.items ≡ all_path_models 0 p.test.now.agents
