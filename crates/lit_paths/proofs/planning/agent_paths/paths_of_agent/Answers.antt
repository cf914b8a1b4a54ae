use Rattle.std.proofs.Common.{arith, ap, ◌∙◌}
use Rattle.lit_syntax.specs.Litmus.{statements_of}
use Rattle.lit_paths.specs.PathModel.{PathModel}
use Rattle.lit_paths.specs.Internal.PathSteps.{with_steps}
use Rattle.lit_paths.specs.Internal.Walks.{walk_at}
use Rattle.lit_paths.proofs.AgentPaths.{first_more, first_all}
use Rattle.lit_paths.proofs.planning.agent_paths.paths_of_agent.Goals as goal

pub loop-number-init : goal.loop-number-init
loop-number-init c = c.in_ok-paths.ensures.items

pub loop-number-preserved : goal.loop-number-preserved
loop-number-preserved c =
    first_more c.args.owner (statements_of c.args.body.now) c.loop-number.number c.loop-number.paths.items c.push.new.self.items c.walk.new.path c.requires.said
    (omega (arith, c.loop-number-test.true, c.walk_count-count.ensures)) c.loop-number.invariant c.in_ok-push.ensures.items
    (c.in_ok-walk.ensures.walked ∙ ap (λ (path : PathModel). with_steps c.args.owner path (walk_at (statements_of c.args.body.now) c.loop-number.number)) c.new-path.ensures)

pub returns : goal.returns
returns c =
    first_all c.args.owner (statements_of c.args.body.now) c.loop-number.number c.loop-number.paths.items
    (omega (arith, c.loop-number-test.false, c.walk_count-count.ensures, c.requires.few)) c.loop-number.invariant
