use Rattle.lit_report.proofs.EntryFacts.{length-outcome}
use Rattle.lit_report.proofs.ReportEntries.{entry_in}
use Rattle.lit_report.specs.ReportText.{report_text}
use Rattle.jslit.proofs.TestAnswers.{report_is}
use Rattle.jslit.proofs.engine.answering.report.Goals as goal

pub verdict_on-verdict-requires : goal.verdict_on-verdict-requires
verdict_on-verdict-requires g c i lt = length-outcome c.args.plan.now _ _ (entry_in c.args.plan.now _ c.args.found.now i c.requires.report lt).gives

pub returns-clause-written : goal.returns-clause-written
returns-clause-written g c = record {
  answer = report_text c.args.plan.now c.args.found.now c.verdict_on-verdict.result;
  of_test = report_is c.args.plan.now c.args.found.now c.verdict_on-verdict.result c.requires.report
      (c.reports_are_complete.ensures c.args.plan.now c.args.found.now c.requires.report) c.verdict_on-verdict.ensures;
  written = c.in_ok-write_report.ensures.written;
}

pub returns-in_err-write_report-clause-begun : goal.returns-in_err-write_report-clause-begun
returns-in_err-write_report-clause-begun g c failed = record {
  answer = report_text c.args.plan.now c.args.found.now c.verdict_on-verdict.result;
  of_test = report_is c.args.plan.now c.args.found.now c.verdict_on-verdict.result c.requires.report
      (c.reports_are_complete.ensures c.args.plan.now c.args.found.now c.requires.report) c.verdict_on-verdict.ensures;
  begun = c.in_err-write_report.ensures.begun;
}
