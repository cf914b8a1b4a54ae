use Rattle.std.proofs.Common.{◌≢◌, ◌∙◌, ◌<◌, Bor, List, Some, ℕ, arith, ap, sym}
use Rattle.lit_report.specs.Counted.{failures_of}
use Rattle.jslit.specs.InterleavingAnswer.{IsInterleavingOn, IsScheduleFaultOn}
use Rattle.jslit_embed.proofs.Calls.{answered, refused}
use Rattle.jslit_embed.proofs.jslit_schedule.Goals as goal

pub returns-clause-answered : goal.returns-clause-answered
returns-clause-answered c zero =
    let not_three : c.hand_served.result ≢ 3 = λ three. absurd (omega (arith, zero, three)) in
    answered _ _ _ _ _ (ap (λ v. v.items) c.new-output.ensures.device ∙ c.new.ensures.items) (c.hand_served.ensures.handed not_three)
    c.args.text.now _ (ap (λ (s : Bor (List ℕ)). Some s.now) c.new-input.ensures.device) (IsInterleavingOn c.args.schedule.now)
    (c.check_schedule-status.ensures.served.answered (sym (c.hand_served.ensures.same not_three) ∙ zero))

pub returns-clause-refused : goal.returns-clause-refused
returns-clause-refused c one =
    let not_three : c.hand_served.result ≢ 3 = λ three. absurd (omega (arith, one, three)) in
    refused _ _ _ _ _ (ap (λ v. v.items) c.new-output.ensures.device ∙ c.new.ensures.items) (c.hand_served.ensures.handed not_three)
    c.args.text.now _ (ap (λ (s : Bor (List ℕ)). Some s.now) c.new-input.ensures.device) (IsScheduleFaultOn c.args.schedule.now) _
    (λ (lt : failures_of c.new-output.result < failures_of c.check_schedule-status.new.output). absurd (omega (arith, lt, c.hand_served.ensures.whole not_three)))
    (c.check_schedule-status.ensures.served.refused (sym (c.hand_served.ensures.same not_three) ∙ one))
