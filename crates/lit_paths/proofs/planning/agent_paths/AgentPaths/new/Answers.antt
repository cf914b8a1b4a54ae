use Rattle.std.proofs.Common.{arith, ap, sym, ◌∙◌, length, map, take, List, [], ◌∷◌, ◌++◌, subst}
use Rattle.std.proofs.lemmas.List.{map-append, take_all}
use Rattle.lit_syntax.specs.Syntax.{Statements}
use Rattle.lit_paths.specs.Path.{walks_of}
use Rattle.lit_paths.specs.PathModel.{PathModel}
use Rattle.lit_paths.specs.Internal.Combining.{path_models, all_path_models}
use Rattle.lit_paths.specs.Internal.Walks.{AreSaid, longest}
use Rattle.lit_paths.proofs.AgentPaths.{all_path_models_next, longest-agent_of, count-agent_of, AreSaid-agent}
use Rattle.lit_paths.proofs.planning.agent_paths.AgentPaths.new.Goals as goal

pub paths_of_agent-requires-clause-said : goal.paths_of_agent-requires-clause-said
paths_of_agent-requires-clause-said c =
    subst AreSaid (sym c.body.ensures.value)
    (AreSaid-agent c.args.test.now c.loop-agent.agent c.body.ensures.litmus (omega (arith, c.loop-agent-test.true, c.agents-agent-end.ensures.value)))

pub paths_of_agent-requires-clause-few : goal.paths_of_agent-requires-clause-few
paths_of_agent-requires-clause-few c =
    omega (
      arith,
      c.requires.short.few,
      ap (λ (ss : Statements). length (walks_of ss)) c.body.ensures.value,
      count-agent_of c.args.test.now c.loop-agent.agent (omega (arith, c.loop-agent-test.true, c.agents-agent-end.ensures.value)),
    )

pub paths_of_agent-requires-clause-short : goal.paths_of_agent-requires-clause-short
paths_of_agent-requires-clause-short c =
    omega (
      arith,
      c.requires.short.short,
      ap longest c.body.ensures.value,
      longest-agent_of c.args.test.now c.loop-agent.agent (omega (arith, c.loop-agent-test.true, c.agents-agent-end.ensures.value)),
    )

pub loop-agent-init : goal.loop-agent-init
loop-agent-init c = ap (map (λ paths. paths.items)) c.in_ok-lists.ensures.items

pub loop-agent-preserved : goal.loop-agent-preserved
loop-agent-preserved c =
    ap (map (λ paths. paths.items)) c.in_ok-push.ensures.items
    ∙ map-append (λ paths. paths.items) c.loop-agent.lists.items (c.in_ok-paths_of_agent.field-0 ∷ [])
    ∙ ap (λ (ls : List (List PathModel)). ls ++ c.in_ok-paths_of_agent.field-0.items ∷ []) c.loop-agent.invariant
    ∙ ap (λ (ps : List PathModel). all_path_models 0 (take c.loop-agent.agent c.args.test.now.agents) ++ ps ∷ [])
    (c.in_ok-paths_of_agent.ensures ∙ ap (path_models c.loop-agent.agent) c.body.ensures.value)
    ∙ sym (all_path_models_next c.args.test.now c.loop-agent.agent (omega (arith, c.loop-agent-test.true, c.agents-agent-end.ensures.value)))

pub invariant_of-result : goal.invariant_of-result
invariant_of-result c = record {
  limits = c.requires;
  all = c.loop-agent.invariant ∙ ap (all_path_models 0) (take_all c.loop-agent.agent c.args.test.now.agents (omega (arith, c.loop-agent-test.false, c.agents-agent-end.ensures.value)));
}
