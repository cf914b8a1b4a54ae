use Rattle.lit_paths.specs.Internal.Walks.{many_walks}
use Rattle.lit_paths.proofs.PlanBuilderSteps.{IsMultiplied}
use Rattle.lit_paths.proofs.planning.plan_builder.combination_count.Given as goal

abbrev pub invariant-loop-agent : goal.invariant-loop-agent
invariant-loop-agent l = IsMultiplied many_walks l.test l.agent l.count
