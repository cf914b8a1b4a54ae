use Rattle.std.proofs.Common.{ap, ◌∙◌}
use Rattle.lit_interleave.specs.Interleaving.{interleaved}
use Rattle.lit_report.specs.Counted.{device_of}
use Rattle.lit_report.specs.ReportText.{interleaving_text}
use Rattle.jslit.specs.InterleavingAnswer.{IsInterleavingOn}
use Rattle.jslit.proofs.Statuses.{has_begun}
use Rattle.jslit.proofs.interleaving.answer_schedule.Goals as goal

pub returns-in_err-write_interleaving-clause-begun : goal.returns-in_err-write_interleaving-clause-begun
returns-in_err-write_interleaving-clause-begun g c failed =
    let test = c.in_ok-test.test in
    has_begun (IsInterleavingOn c.args.schedule.now c.args.text.now) (g.W.Write.contents (device_of c.args.output.now))
    (g.W.Write.contents (device_of c.write_interleaving.new.output)) (interleaving_text test c.deref-2.result.now)
    (record {
      test = test;
      spelled = c.in_ok-test.ensures.spells;
      agents = c.in_ok-agents.agents.items;
      named = c.in_ok-agents.ensures.named;
      is = ap (interleaving_text test) (c.deref-2.ensures.value ∙ c.in_ok-outcome.ensures ∙ ap (interleaved test) c.deref.ensures.value);
    })
    c.in_err-write_interleaving.ensures.begun
