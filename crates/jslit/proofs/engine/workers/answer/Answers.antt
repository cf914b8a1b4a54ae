use Rattle.std.proofs.Common.{◌≡◌}
use Rattle.lit_report.specs.Counted.{device_of}
use Rattle.jslit.proofs.TestAnswers.{begun_on, reported_on}
use Rattle.jslit.proofs.Refusals.{not_refused, unwritten_on, writing_of, writing_on}
use Rattle.jslit.proofs.engine.workers.answer.Goals as goal

pub returns-clause-reported : goal.returns-clause-reported
returns-clause-reported g c =
    reported_on c.asked_report.result c.args.options.quick c.args.text.now c.in_ok-test.test c.in_ok-plan.plan
    (g.W.Write.contents (device_of c.args.output.now))
    (g.W.Write.contents (device_of c.asked_report.new.output)) c.in_ok-test.ensures.spells
    (not_refused c.in_ok-test.test c.in_ok-plan.ensures.few_events c.in_ok-plan.ensures.few_paths c.in_ok-plan.ensures.few_choices)
    c.in_ok-plan.ensures.ok c.asked_report.ensures.written

pub returns-clause-begun : goal.returns-clause-begun
returns-clause-begun g c failed =
    begun_on c.args.options.quick c.args.text.now c.in_ok-test.test c.in_ok-plan.plan (g.W.Write.contents (device_of c.args.output.now))
    (g.W.Write.contents (device_of c.asked_report.new.output)) c.in_ok-test.ensures.spells
    (not_refused c.in_ok-test.test c.in_ok-plan.ensures.few_events c.in_ok-plan.ensures.few_paths c.in_ok-plan.ensures.few_choices)
    c.in_ok-plan.ensures.ok (c.asked_report.ensures.begun failed)

pub returns-clause-unwritten : goal.returns-clause-unwritten
returns-clause-unwritten g c = unwritten_on c.asked_report.result (c.asked_report.new.output ≡ c.args.output.now)
    c.asked_report.ensures.fault c.asked_report.ensures.unwritten

pub returns-clause-refused : goal.returns-clause-refused
returns-clause-refused g c = writing_on c.asked_report.result c.args.text.now c.asked_report.ensures.fault

pub returns-clause-of_text : goal.returns-clause-of_text
returns-clause-of_text g c = writing_of c.asked_report.result c.asked_report.ensures.fault
