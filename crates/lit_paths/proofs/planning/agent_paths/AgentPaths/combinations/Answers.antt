use Rattle.std.proofs.Common.{◌<◌, arith, length, ap}
use Rattle.lit_paths.specs.Internal.Walks.{count_of}
use Rattle.lit_paths.proofs.Combined.{later_fits}
use Rattle.lit_paths.proofs.planning.agent_paths.AgentPaths.combinations.Goals as goal

pub overflow_mul-count : goal.overflow_mul-count
overflow_mul-count c =
    let inside : c.loop-agent.agent < length c.args.self.now.agents = omega (arith, c.loop-agent-test.true, c.agents-agent-end.ensures.value, ap (λ t. length t.agents) c.self.view_is) in
    omega (
      arith,
      later_fits c.args.self.now c.loop-agent.agent c.loop-agent.count c.count-count.result _ inside c.count-count.ensures c.loop-agent.invariant,
      c.self.invariant.limits.short.few,
      ap (λ t. count_of t.agents) c.self.view_is,
    )
