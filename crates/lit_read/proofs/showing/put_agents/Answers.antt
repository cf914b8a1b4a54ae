use Rattle.std.proofs.Common.{◌≡◌, ◌++◌, ◌<◌, ◌≤◌, [], ◌∷◌, refl, length, string_bytes, arith}
use Rattle.lit_syntax.specs.Syntax.{agent_of}
use Rattle.lit_syntax.specs.Forms.{AgentLine}
use Rattle.lit_read.specs.Canonical.{statements_forms}
use Rattle.lit_read.specs.CanonicalText.{forms_text}
use Rattle.lit_read.proofs.ShownForms.{agent_put, agents_put}
use Rattle.lit_read.proofs.showing.put_agents.Goals as goal

pub loop-agent-preserved : goal.loop-agent-preserved
loop-agent-preserved c =
    let i = c.loop-agent.agent in
    let lt : i < length c.args.test.now.agents = omega (arith, c.agents-agent-end.ensures.value, c.loop-agent-test.true) in
    let name : string_bytes c.put_name.new.out ≡ string_bytes c.loop-agent.out ++ forms_text (AgentLine (agent_of c.args.test.now i).name ∷ []) = rw (← c.agent_name.ensures) c.in_ok-put_name.ensures in
    let body : string_bytes c.put_statements.new.out ≡ string_bytes c.put_name.new.out ++ forms_text (statements_forms (agent_of c.args.test.now i).body) = rw (← c.body.ensures.value) c.in_ok-put_statements.ensures in
    agent_put c.args.test.now.agents i (agent_of c.args.test.now i) (string_bytes c.loop-agent.out) (string_bytes c.put_name.new.out) (string_bytes c.put_statements.new.out) _ lt refl name body c.loop-agent.invariant

pub returns : goal.returns
returns c =
    let past : length c.args.test.now.agents ≤ c.loop-agent.agent = omega (arith, c.agents-agent-end.ensures.value, c.loop-agent-test.false) in
    agents_put c.args.test.now.agents c.loop-agent.agent (string_bytes c.loop-agent.out) _ past c.loop-agent.invariant
