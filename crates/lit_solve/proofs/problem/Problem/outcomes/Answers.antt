use Rattle.lit_solve.proofs.Words.{box_of}
use Rattle.lit_solve.proofs.EntryLemmas.{adds_more}
use Rattle.lit_solve.proofs.problem.Problem.outcomes.Goals as goal

pub returns-in-None-clause-added : goal.returns-in-None-clause-added
returns-in-None-clause-added g c =
    let entries = g.T.OutcomeTable.entries in
    adds_more (box_of c.args.self.now c.args.frame.now) (entries c.args.table.now) (entries c.outcomes_by_values.new.table)
    (entries c.outcomes_by_sources.new.table) c.outcomes_by_values.ensures.added c.outcomes_by_sources.ensures.added
