use Rattle.lit_paths.specs.Internal.Walks.{many_accesses}
use Rattle.lit_paths.proofs.PlanBuilderSteps.{IsSummed}
use Rattle.lit_paths.proofs.planning.plan_builder.has_too_many_events.Given as goal

abbrev pub invariant-loop-agent : goal.invariant-loop-agent
invariant-loop-agent l = IsSummed many_accesses l.test l.agent l.count
