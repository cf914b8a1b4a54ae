use Rattle.std.proofs.Common.{◌≡◌, ◌++◌, drop, map}
use Rattle.serde_json.specs.View.{view}
use Rattle.lit_json.proofs.AgentLemmas.{agents_told}
use Rattle.lit_json.proofs.test.agents_value.Given as goal

abbrev pub invariant-loop-agent : goal.invariant-loop-agent
invariant-loop-agent l =
    map view l.list.items ++ agents_told l.lines.left.now (drop l.agent l.test.agents) ≡ agents_told l.initial.lines.left.now l.test.agents
