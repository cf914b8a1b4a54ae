use Rattle.std.proofs.Common.{below_more}
use Rattle.std.proofs.lemmas.Bool.{false≢true}
use Rattle.lit_paths.specs.Plan.{IsWalkIn, first_event, path_in, walk_in}
use Rattle.lit_rel.specs.Internal.FalseGuards.{HasFalse}
use Rattle.lit_rel.proofs.part.false_guards.has_false_guard.Goals as goal

pub loop-agent-preserved : goal.loop-agent-preserved
loop-agent-preserved c =
    let t = c.args.combination.now.0 in
    let number = c.args.combination.now.1 in
    let agent = c.loop-agent.agent in
    record {
      none = below_more (λ i. HasFalse (path_in t number i).tests (first_event t number i) c.args.asked c.args.value → ⊥) agent c.loop-agent.invariant.none
          (λ h. false≢true (c.if-has_false.ensures.1 (rw (c.tests-tests.ensures, c.path.ensures.exact, c.first_event.ensures) h)));
      walks = below_more (λ i. IsWalkIn t number i (walk_in t number i)) agent c.loop-agent.invariant.walks c.path.ensures.walk;
    }
