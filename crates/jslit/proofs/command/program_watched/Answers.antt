use Rattle.std.proofs.Common.{map, refl}
use Rattle.jslit.proofs.Answered.{of_error, of_file, of_input}
use Rattle.jslit.proofs.command.program_watched.Goals as goal

pub returns-in-Err-clause-answered : goal.returns-in-Err-clause-answered
returns-in-Err-clause-answered g c =
    of_error g.W.Write.contents g.R.Read.remaining (map g.S.AsStr.text c.args.words.now) c.explain_words.result c.args.input.now c.args.input.now c.args.output.now c.explain_words.new.output
    c.in-Err.error c.in-Err.ensures.refused c.explain_words.ensures.status refl

pub returns-in-Ok-open-clause-answered : goal.returns-in-Ok-open-clause-answered
returns-in-Ok-open-clause-answered g c =
    of_file g.W.Write.contents g.R.Read.remaining (map g.S.AsStr.text c.args.words.now) c.serve-in-Ok-open.result c.args.input.now c.args.input.now c.args.output.now c.serve-in-Ok-open.new.output
    c.in-Ok.line c.in-Some.path _ _ c.in-Ok.ensures.asked c.in-Some.is c.serve-in-Ok-open.ensures.status refl c.serve-in-Ok-open.ensures.served

pub returns-in_default-clause-answered : goal.returns-in_default-clause-answered
returns-in_default-clause-answered g c =
    of_input g.W.Write.contents g.R.Read.remaining (map g.S.AsStr.text c.args.words.now) c.serve.result c.args.input.now c.serve.new.input c.args.output.now c.serve.new.output
    c.in-Ok.line c.in-Ok.ensures.asked c.in_default.is c.serve.ensures.status c.serve.ensures.served
