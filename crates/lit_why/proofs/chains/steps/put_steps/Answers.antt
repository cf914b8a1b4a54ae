use Rattle.std.proofs.Common.{◌∙◌, refl}
use Rattle.std.proofs.lemmas.Bool.{false≢true}
use Rattle.lit_rel.specs.Rows.{Holds}
use Rattle.lit_why.specs.Internal.Reaching.{IsStep}
use Rattle.lit_why.proofs.StepLemmas.{step_more, step_skip}
use Rattle.lit_why.proofs.chains.steps.put_steps.Goals as goal
use Rattle.lit_why.proofs.chains.steps.put_steps.Goals.{then-is_step, else-is_step}

pub loop-second-preserved : goal.loop-second-preserved
loop-second-preserved c =
    let init = Holds c.args.rows.now in
    let cur = Holds c.loop-second.rows in
    let so_far = c.loop-second.invariant in
    let step = IsStep c.args.events.now (Holds c.args.synchronizes.now) c.args.first in
    elim c.if-is_step.branch [
      | then-is_step w ↦ rw w.rows-is record {
        len = w.put.ensures.len ∙ so_far.len;
        pairs = step_more init cur c.args.first c.loop-second.second step so_far.pairs (Holds w.put.new.self) (w.if-is_step.ensures.0 refl) w.put.ensures.pairs;
      }
      | else-is_step w ↦ rw w.rows-is record {
        len = so_far.len;
        pairs = step_skip init cur c.args.first c.loop-second.second step so_far.pairs (λ h. false≢true (w.if-is_step.ensures.1 h));
      }
    ]
