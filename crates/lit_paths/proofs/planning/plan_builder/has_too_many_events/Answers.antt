use Rattle.std.proofs.Common.{arith, ap, ◌∙◌, min}
use Rattle.std.proofs.lemmas.Bool.{ltb-true, lt-ltb}
use Rattle.lit_paths.specs.Internal.Walks.{many_accesses, longest}
use Rattle.lit_paths.proofs.PlanBuilderSteps.{summed_more, summed_end}
use Rattle.lit_paths.proofs.planning.plan_builder.has_too_many_events.Goals as goal

pub overflow_add-count : goal.overflow_add-count
overflow_add-count c = omega (arith, c.loop-agent.invariant.0, c.longest_walk.ensures)

pub loop-agent-preserved : goal.loop-agent-preserved
loop-agent-preserved c =
    summed_more many_accesses c.args.test.now c.loop-agent.agent c.loop-agent.count c.longest_walk.result c.min-count.result
    (omega (arith, c.loop-agent-test.true, c.agents-agent-end.ensures.value)) (c.longest_walk.ensures ∙ ap (λ ss. min (longest ss) many_accesses) c.body.ensures.value)
    c.min-count.ensures c.loop-agent.invariant

pub returns : goal.returns
returns c =
    let whole = summed_end many_accesses c.args.test.now c.loop-agent.agent c.loop-agent.count (omega (arith, c.loop-agent-test.false, c.agents-agent-end.ensures.value)) c.loop-agent.invariant in
    (λ h. omega (arith, whole, ltb-true _ _ h), λ h. lt-ltb _ _ (omega (arith, whole, h)))
