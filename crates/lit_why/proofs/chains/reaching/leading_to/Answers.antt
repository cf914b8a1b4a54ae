use Rattle.std.proofs.Common.{ℕ, refl}
use Rattle.std.proofs.lemmas.Bool.{false≢true}
use Rattle.lit_rel.specs.EventSet.{HasEvent}
use Rattle.lit_rel.specs.Rows.{Holds}
use Rattle.lit_why.proofs.ReachLemmas.{lead_more, lead_skip}
use Rattle.lit_why.proofs.chains.reaching.leading_to.Goals as goal
use Rattle.lit_why.proofs.chains.reaching.leading_to.Goals.{then-leads_into, else-leads_into}

pub loop-event-preserved : goal.loop-event-preserved
loop-event-preserved c =
    let leads = λ (e : ℕ). (d : ℕ) × Holds c.args.steps.now e d × HasEvent c.args.set d in
    let cur = HasEvent c.loop-event.leading in
    elim c.if-leads_into.branch [
      | then-leads_into w ↦ rw w.leading-is (lead_more leads cur c.loop-event.event c.loop-event.invariant (HasEvent w.with-leading.result) (w.if-leads_into.ensures.0 refl) w.with-leading.ensures)
      | else-leads_into w ↦ rw w.leading-is (lead_skip leads cur c.loop-event.event c.loop-event.invariant (λ h. false≢true (w.if-leads_into.ensures.1 h)))
    ]
