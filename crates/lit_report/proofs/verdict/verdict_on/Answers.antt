use Rattle.lit_report.proofs.Judging.{judged_by}
use Rattle.lit_report.proofs.verdict.verdict_on.Goals as goal

pub returns : goal.returns
returns c =
    rw c.verdict_from.ensures (judged_by c.args.plan.now c.args.found.now c.has_answer-met.result c.has_answer-unmet.result
    (record { none_met = c.has_answer-met.ensures.none; some_met = c.has_answer-met.ensures.some; none_unmet = c.has_answer-unmet.ensures.none; some_unmet = c.has_answer-unmet.ensures.some }))
