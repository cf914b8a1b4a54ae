use Rattle.std.proofs.Common.{ℕ, List, length, arith, ap, sym, ◌∙◌}
use Rattle.lit_syntax.specs.Litmus.{statements_of}
use Rattle.lit_syntax.specs.Syntax.{Litmus, agent_of}
use Rattle.lit_syntax.specs.StatementOrder.{statement_count}
use Rattle.lit_paths.specs.PathModel.{PathModel}
use Rattle.lit_paths.specs.Plan.{walk_in}
use Rattle.lit_paths.specs.Internal.Walks.{longest}
use Rattle.lit_paths.proofs.AgentPaths.{longest-agent_of}
use Rattle.lit_paths.proofs.Entered.{agent_here}
use Rattle.lit_paths.proofs.MakerLaws.{makers_known}
use Rattle.lit_paths.proofs.MakerSteps.{makers_all_found, makers_counted, agent_few}
use Rattle.lit_paths.proofs.PathSteps.{length-events_on}
use Rattle.lit_paths.proofs.combination.Combination.statements.Goals as goal

pub find_makers-requires-clause-room : goal.find_makers-requires-clause-room
find_makers-requires-clause-room c =
    let inside = agent_here _ _ _ c.self.view_is c.args.agent c.requires in
    let body = c.body.ensures.value ∙ ap (λ t. (agent_of t c.args.agent).body) c.test.ensures in
    omega (arith, ap (λ (xs : List ℕ). length xs) c.new-makers.ensures, ap longest body, longest-agent_of c.self.inside.paths.now c.args.agent inside, c.self.invariant.limits.short.short)

pub find_makers-requires-clause-fits : goal.find_makers-requires-clause-fits
find_makers-requires-clause-fits c =
    let inside = agent_here _ _ _ c.self.view_is c.args.agent c.requires in
    let body = c.body.ensures.value ∙ ap (λ t. (agent_of t c.args.agent).body) c.test.ensures in
    omega (arith, ap statement_count body, agent_few c.self.inside.paths.now c.args.agent inside c.self.invariant.limits.short)

pub returns-clause-makers : goal.returns-clause-makers
returns-clause-makers c =
    let now = ap (λ (p : Litmus × ℕ). (agent_of p.0 c.args.agent).body) c.self.view_is in
    let body = c.body.ensures.value ∙ ap (λ t. (agent_of t c.args.agent).body) c.test.ensures ∙ now in
    let tests = c.tests.ensures ∙ ap (λ (p : PathModel). p.tests) c.path.ensures.exact in
    makers_all_found (statements_of c.body.result.now) (agent_of c.args.self.now.0 c.args.agent).body (walk_in c.args.self.now.0 c.args.self.now.1 c.args.agent) c.tests.result.now
    c.new-makers.result.items c.find_makers.new.makers.items c.new-makers.ensures body c.find_makers.ensures.makers tests c.path.ensures.walk.walked

pub returns-clause-one_each : goal.returns-clause-one_each
returns-clause-one_each c =
    let steps = walk_in c.args.self.now.0 c.args.self.now.1 c.args.agent in
    makers_counted 0 (agent_of c.args.self.now.0 c.args.agent).body steps c.find_makers.new.makers.items (returns-clause-makers c)
    ∙ sym (length-events_on c.args.agent 0 steps)

pub returns-clause-known : goal.returns-clause-known
returns-clause-known c =
    makers_known (agent_of c.args.self.now.0 c.args.agent).body (walk_in c.args.self.now.0 c.args.self.now.1 c.args.agent) c.find_makers.new.makers.items (returns-clause-makers c)
