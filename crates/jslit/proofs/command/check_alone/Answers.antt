use Rattle.std.proofs.Common.{◌-◌, ◌^◌}
use Rattle.jslit.specs.Answer.{IsAnswerOn, IsFaultOn}
use Rattle.jslit.proofs.Finishing.{finished, finished_memory, finished_status, room_left}
use Rattle.jslit.proofs.command.check_alone.Goals as goal

pub returns-clause-served : goal.returns-clause-served
returns-clause-served g c =
    finished g.R.Read.remaining g.W.Write.contents (IsAnswerOn c.args.quick) IsFaultOn c.run_alone-ran.result c.args.input.now c.run_alone-ran.new.input
    c.args.output.now c.run_alone-ran.new.output c.finish.new.output c.finish.result c.run_alone-ran.ensures c.finish.ensures.counted
    c.finish.ensures.flushed c.finish.ensures.said

pub finish-requires : goal.finish-requires
finish-requires g c = room_left c.run_alone-ran.result c.args.output.now c.run_alone-ran.new.output (2 ^ 64 - 1)
    c.run_alone-ran.ensures.unwritten c.requires.output

pub returns-clause-status : goal.returns-clause-status
returns-clause-status g c =
    finished_status g.W.Write.contents c.run_alone-ran.result c.run_alone-ran.new.output c.finish.new.output c.finish.result
    c.finish.ensures.flushed c.finish.ensures.said

pub returns-clause-memory : goal.returns-clause-memory
returns-clause-memory g c =
    finished_memory g.W.Write.contents c.run_alone-ran.result c.args.output.now c.run_alone-ran.new.output c.finish.new.output
    c.finish.result
    c.finish.ensures.flushed c.finish.ensures.said c.run_alone-ran.ensures.unwritten
