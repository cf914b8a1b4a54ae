use Rattle.std.proofs.Common.{◌<◌, ◌-◌, ◌^◌, arith}
use Rattle.lit_report.specs.Counted.{device_of, failures_of}
use Rattle.jslit.specs.Answer.{IsAnswerOn, IsFaultOn}
use Rattle.jslit.proofs.Finishing.{finished, finished_memory, finished_status, nothing_served, room_left}
use Rattle.jslit.proofs.command.check_watched.Goals as goal

pub returns-clause-served : goal.returns-clause-served
returns-clause-served g c =
    finished g.R.Read.remaining g.W.Write.contents (IsAnswerOn c.args.options.quick) IsFaultOn c.run_watched-ran.result c.args.input.now c.run_watched-ran.new.input
    c.args.output.now c.run_watched-ran.new.output c.finish.new.output c.finish.result c.run_watched-ran.ensures c.finish.ensures.counted
    c.finish.ensures.flushed c.finish.ensures.said

pub finish-requires : goal.finish-requires
finish-requires g c = room_left c.run_watched-ran.result c.args.output.now c.run_watched-ran.new.output (2 ^ 64 - 1)
    c.run_watched-ran.ensures.unwritten c.requires.output

pub returns-clause-status : goal.returns-clause-status
returns-clause-status g c =
    finished_status g.W.Write.contents c.run_watched-ran.result c.run_watched-ran.new.output c.finish.new.output c.finish.result
    c.finish.ensures.flushed c.finish.ensures.said

pub returns-clause-memory : goal.returns-clause-memory
returns-clause-memory g c =
    finished_memory g.W.Write.contents c.run_watched-ran.result c.args.output.now c.run_watched-ran.new.output c.finish.new.output
    c.finish.result
    c.finish.ensures.flushed c.finish.ensures.said c.run_watched-ran.ensures.unwritten

pub returns-in_default-clause-served : goal.returns-in_default-clause-served
returns-in_default-clause-served g c =
    nothing_served g.W.Write.contents (g.R.Read.remaining (device_of c.args.input.now))
    (failures_of c.args.input.now < failures_of c.args.input.now)
    (IsAnswerOn c.args.options.quick) IsFaultOn c.say.result c.args.output.now c.say.new.output c.say.ensures.status
    (λ (lt : failures_of c.args.input.now < failures_of c.args.input.now). absurd (omega (arith, lt)))
