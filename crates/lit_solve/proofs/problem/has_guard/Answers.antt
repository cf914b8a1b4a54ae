use Rattle.lit_solve.proofs.Words.{◌≡◌, arith, below_more, common_steps, length, nat_tests, path_in}
use Rattle.lit_solve.proofs.problem.has_guard.Goals as goal

pub loop-agent-preserved : goal.loop-agent-preserved
loop-agent-preserved c =
    let here : length (path_in c.args.combination.now.0 c.args.combination.now.1 c.loop-agent.agent).tests ≡ 0 =
    grind (arith, common_steps, nat_tests, c.is_empty.ensures, c.tests.ensures, c.path.ensures.exact) in
    below_more (λ i. length (path_in c.args.combination.now.0 c.args.combination.now.1 i).tests ≡ 0) c.loop-agent.agent
    c.loop-agent.invariant here
