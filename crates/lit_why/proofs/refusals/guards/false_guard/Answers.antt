use Rattle.std.proofs.Common.{ℕ, ◌<◌, length, below_more, arith}
use Rattle.lit_why.specs.Refusal.{IsFalseAt}
use Rattle.lit_why.proofs.RefusalLemmas.{least_here, none_here}
use Rattle.lit_why.proofs.refusals.guards.false_guard.Goals as goal

pub returns-in-Some : goal.returns-in-Some
returns-in-Some c =
    let part = c.args.part.now in
    let agent = c.loop-agent.agent in
    let is_guards = rw (c.path.ensures.exact, c.combination-combination.ensures) at c.tests-guards.ensures in
    let is_first = rw c.combination-combination.ensures at c.first_event.ensures in
    let count = rw (c.test.ensures, c.combination-combination.ensures) at c.agents-agent-end.ensures.value in
    let known : agent < length part.test.agents = omega (arith, count, c.loop-agent-test.true) in
    least_here part agent c.tests-guards.result.now c.first_event.result is_guards is_first known c.in-Some.place c.in-Some.ensures c.loop-agent.invariant

pub loop-agent-preserved : goal.loop-agent-preserved
loop-agent-preserved c =
    let part = c.args.part.now in
    let is_guards = rw (c.path.ensures.exact, c.combination-combination.ensures) at c.tests-guards.ensures in
    let is_first = rw c.combination-combination.ensures at c.first_event.ensures in
    below_more (λ a. (p : ℕ) → IsFalseAt part a p → ⊥) c.loop-agent.agent c.loop-agent.invariant
    (none_here part c.loop-agent.agent c.tests-guards.result.now c.first_event.result is_guards is_first c.in_default.ensures)
