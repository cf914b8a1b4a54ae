use Rattle.std.proofs.Common.{rules, arith, append-nil, ◌≡◌, ◌++◌, List, map, ap, sym, ◌∙◌}
use Rattle.std.proofs.lemmas.List.{drop_all}
use Rattle.serde_json.specs.Data.{array, Items}
use Rattle.serde_json.specs.View.{view, items_of, items_view}
use Rattle.serde_json.specs.declared.value.Value as value
use Rattle.serde_json.specs.declared.value.Value.{the_lemmas}
use Rattle.lit_syntax.specs.Syntax.{Agent}
use Rattle.lit_json.specs.StatementData.{agents_data}
use Rattle.lit_json.proofs.AgentLemmas.{agents_told, all_agents_told}
use Rattle.lit_json.proofs.test.agents_value.Goals as goal

pub returns : goal.returns
returns c =
    let agents = c.args.test.now.agents in
    let lines = c.args.lines.now in
    let items = c.loop-agent.list.items in
    let end = drop_all c.loop-agent.agent agents (omega (arith, c.loop-agent-test.false, c.agents-agent-end.ensures.value)) in
    let all : items_view items ≡ agents_data lines agents =
    ap items_of (sym (append-nil (map view items)) ∙ ap (λ (rest : List Agent). map view items ++ agents_told c.loop-agent.lines.left.now rest) (sym end)
    ∙ c.loop-agent.invariant ∙ ap (λ ls. agents_told ls agents) c.new-lines.ensures) ∙ all_agents_told lines agents in
    let list : view (value.Array c.loop-agent.list) ≡ array (items_view items) = search (rules, the_lemmas) in
    list ∙ ap (λ (ds : Items). array ds) all
