use Rattle.std.proofs.Common.{arith, ap, ◌∙◌, ◌≤◌, min, length, mul-le-mul}
use Rattle.lit_paths.specs.Path.{walks_of}
use Rattle.lit_paths.specs.Internal.Walks.{many_walks}
use Rattle.lit_paths.proofs.PlanBuilderSteps.{multiplied_none, multiplied_more, multiplied_end}
use Rattle.lit_paths.proofs.planning.plan_builder.combination_count.Goals as goal

pub loop-agent-init : goal.loop-agent-init
loop-agent-init c = multiplied_none many_walks c.args.test.now (omega arith)

pub overflow_mul-count : goal.overflow_mul-count
overflow_mul-count c =
    let few : c.loop-agent.count ≤ many_walks = c.loop-agent.invariant.few in
    let less : c.walk_count.result ≤ many_walks = omega (arith, c.walk_count.ensures) in
    omega (arith, mul-le-mul few less)

pub loop-agent-preserved : goal.loop-agent-preserved
loop-agent-preserved c =
    multiplied_more many_walks c.args.test.now c.loop-agent.agent c.loop-agent.count c.walk_count.result c.min-count.result (omega arith)
    (omega (arith, c.loop-agent-test.true, c.agents-agent-end.ensures.value)) (c.walk_count.ensures ∙ ap (λ ss. min (length (walks_of ss)) many_walks) c.body.ensures.value)
    c.min-count.ensures c.loop-agent.invariant

pub returns-clause-value : goal.returns-clause-value
returns-clause-value c = multiplied_end many_walks c.args.test.now c.loop-agent.agent c.loop-agent.count (omega (arith, c.loop-agent-test.false, c.agents-agent-end.ensures.value)) c.loop-agent.invariant
