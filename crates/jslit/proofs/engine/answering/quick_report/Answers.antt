use Rattle.lit_report.specs.Internal.FirstEntry.{entry_of_option}
use Rattle.lit_report.specs.ReportText.{quick_text}
use Rattle.jslit.proofs.TestAnswers.{quick_report_is}
use Rattle.jslit.proofs.engine.answering.quick_report.Goals as goal

pub returns-clause-written : goal.returns-clause-written
returns-clause-written g c = record {
  answer = quick_text c.args.plan.now (entry_of_option c.in_ok-met.met) (entry_of_option c.in_ok-unmet.unmet) c.verdict_from-verdict.result;
  of_test = quick_report_is c.args.plan.now c.in_ok-met.met c.in_ok-unmet.unmet _ _ _ c.in_ok-met.ensures.found c.in_ok-unmet.ensures.found
      c.is_some.ensures c.is_some-2.ensures c.verdict_from-verdict.ensures;
  written = c.in_ok-write_quick_report.ensures.written;
}

pub returns-in_err-write_quick_report-clause-begun : goal.returns-in_err-write_quick_report-clause-begun
returns-in_err-write_quick_report-clause-begun g c failed = record {
  answer = quick_text c.args.plan.now (entry_of_option c.in_ok-met.met) (entry_of_option c.in_ok-unmet.unmet) c.verdict_from-verdict.result;
  of_test = quick_report_is c.args.plan.now c.in_ok-met.met c.in_ok-unmet.unmet _ _ _ c.in_ok-met.ensures.found c.in_ok-unmet.ensures.found
      c.is_some.ensures c.is_some-2.ensures c.verdict_from-verdict.ensures;
  begun = c.in_err-write_quick_report.ensures.begun;
}
