use Rattle.std.proofs.Common.{◌∙◌, ◌<◌, ap, Bor, List, ℕ, Option, Some, option_map, sym, subst}
use Rattle.lit_report.specs.Counted.{device_of, failures_of}
use Rattle.jslit.specs.ProgramAnswer.{IsAnswerBy, IsFaultBy}
use Rattle.jslit.specs.RunAnswer.{HasServed}
use Rattle.jslit.proofs.command.serve.Goals as goal

pub returns-in-Some-clause-served : goal.returns-in-Some-clause-served
returns-in-Some-clause-served g c =
    subst (λ (o : Option (List ℕ)). HasServed g.W.Write.contents (g.R.Read.remaining (device_of c.args.input.now))
    (failures_of c.args.input.now < failures_of c.check_schedule.new.input) (IsAnswerBy c.args.line.now.options.quick o) (IsFaultBy o)
    c.check_schedule.result c.args.output.now c.check_schedule.new.output)
    (ap Some c.as_bytes.ensures.value ∙ ap (option_map (λ (s : Bor (List ℕ)). s.now)) (sym c.in-Some.is)) c.check_schedule.ensures.served

pub returns-in-None-clause-served : goal.returns-in-None-clause-served
returns-in-None-clause-served g c =
    subst (λ (o : Option (List ℕ)). HasServed g.W.Write.contents (g.R.Read.remaining (device_of c.args.input.now))
    (failures_of c.args.input.now < failures_of c.check_watched.new.input) (IsAnswerBy c.args.line.now.options.quick o) (IsFaultBy o)
    c.check_watched.result c.args.output.now c.check_watched.new.output)
    (ap (option_map (λ (s : Bor (List ℕ)). s.now)) (sym c.in-None.is)) c.check_watched.ensures.served
