use Rattle.std.proofs.Common.{ℕ, List, Option, subst, Bor}
use Rattle.std.specs.Option.{option_map}
use Rattle.jslit.proofs.Schedules.{IsReadTo, names_none, read_more, read_whole}
use Rattle.jslit.proofs.interleaving.schedule.agents_of.Goals as goal

pub returns-in_default-agent_named-clause-fault : goal.returns-in_default-agent_named-clause-fault
returns-in_default-agent_named-clause-fault c =
    let read = subst (λ (r : Option (Bor (List ℕ))). IsReadTo c.args.test.now c.args.schedule.now c.loop-rest.agents.items (option_map (λ x. x.now) r)) c.in-Some.is c.loop-rest.invariant in
    names_none c.args.test.now c.agent_named.ensures.litmus c.in-Some.left.now c.split_member.result.0.now (option_map (λ x. x.now) c.split_member.result.1)
    c.split_member.ensures.parts c.split_member.ensures.member c.args.schedule.now c.loop-rest.agents.items read c.in_default-agent_named.ensures.none

pub loop-rest-preserved : goal.loop-rest-preserved
loop-rest-preserved c =
    let read = subst (λ (r : Option (Bor (List ℕ))). IsReadTo c.args.test.now c.args.schedule.now c.loop-rest.agents.items (option_map (λ x. x.now) r)) c.in-Some.is c.loop-rest.invariant in
    rw c.in_ok-push.ensures.items (read_more c.args.test.now c.agent_named.ensures.litmus c.in-Some.left.now c.split_member.result.0.now (option_map (λ x. x.now) c.split_member.result.1)
    c.split_member.ensures.parts c.split_member.ensures.member c.args.schedule.now c.loop-rest.agents.items c.in-Some-agent_named.agent read
    c.in-Some-agent_named.ensures.found.0 c.in-Some-agent_named.ensures.found.1)

pub returns-clause-named : goal.returns-clause-named
returns-clause-named c =
    let read = subst (λ (r : Option (Bor (List ℕ))). IsReadTo c.args.test.now c.args.schedule.now c.loop-rest.agents.items (option_map (λ x. x.now) r)) c.in_default-rest.is c.loop-rest.invariant in
    read_whole c.args.test.now c.args.schedule.now c.loop-rest.agents.items read
