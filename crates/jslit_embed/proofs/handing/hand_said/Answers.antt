use Rattle.std.proofs.Common.{◌≢◌, ◌∙◌, ◌<◌, inl, inr, arith, ap}
use Rattle.lit_report.specs.Counted.{failures_of}
use Rattle.jslit_embed.proofs.Calls.{whole}
use Rattle.jslit_embed.proofs.handing.hand_said.Goals as goal

pub hand_served-requires : goal.hand_served-requires
hand_served-requires c = inr (inl (c.say-status.ensures.status ∙ c.requires))

pub returns-clause-handed : goal.returns-clause-handed
returns-clause-handed c one =
    let not_three : c.hand_served.result ≢ 3 = λ three. absurd (omega (arith, one, three)) in
    whole _ _ _ _ _ (ap (λ v. v.items) c.new-output.ensures.device ∙ c.new.ensures.items) (c.hand_served.ensures.handed not_three) _
    ((c.say-status.ensures.refused (c.say-status.ensures.status ∙ c.requires)).written
    (λ (lt : failures_of c.new-output.result < failures_of c.say-status.new.output). absurd (omega (arith, lt, c.hand_served.ensures.whole not_three))))
