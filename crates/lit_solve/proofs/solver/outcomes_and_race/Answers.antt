use Rattle.lit_solve.proofs.Words.{box_of, box_with, false≢true, inl, inr, sym, ◌∙◌}
use Rattle.lit_solve.proofs.EntryLemmas.{adds_out}
use Rattle.lit_solve.proofs.ObservedLemmas.{least_pruned}
use Rattle.lit_solve.proofs.SearchingLemmas.{solution_out}
use Rattle.lit_solve.specs.Outcomes.{AddsEntries}
use Rattle.lit_solve.specs.declared.goal.Goal.TheVariants.{Race}
use Rattle.lit_solve.proofs.solver.outcomes_and_race.Goals as goal
use Rattle.lit_solve.proofs.solver.outcomes_and_race.Goals.{After-outcomes}

-- what is added for the frame is added for the box
added : (g : _) (c : After-outcomes g) → AddsEntries (box_with c.args.problem.now c.args.domains.now)
    (g.T.OutcomeTable.entries c.args.table.now) (g.T.OutcomeTable.entries c.outcomes.new.table)
added g c =
    let box = box_with c.args.problem.now c.args.domains.now in
    adds_out (box_of c.args.problem.now c.in-Some.frame) box (least_pruned box c.in-Some.frame.domains c.in-Some.ensures.prunes)
    (g.T.OutcomeTable.entries c.args.table.now) (g.T.OutcomeTable.entries c.outcomes.new.table) c.outcomes.ensures.added

pub returns-in_err-outcomes-clause-added : goal.returns-in_err-outcomes-clause-added
returns-in_err-outcomes-clause-added g c = added g (goal.at.returns-in_err-outcomes-clause-added g c).After-outcomes

pub returns-then-raced-clause-added : goal.returns-then-raced-clause-added
returns-then-raced-clause-added g c = added g (goal.at.returns-then-raced-clause-added g c).After-outcomes

pub returns-else-raced-clause-added : goal.returns-else-raced-clause-added
returns-else-raced-clause-added g c = added g (goal.at.returns-else-raced-clause-added g c).After-outcomes

pub returns-else-raced-clause-race : goal.returns-else-raced-clause-race
returns-else-raced-clause-race g c =
    let frame = box_of c.args.problem.now c.in-Some.frame in
    let prunes = c.in-Some.ensures.prunes in (
      (λ found.
          let solution = c.exists.ensures.0 found in
          inr (solution.0, solution_out frame (box_with c.args.problem.now c.args.domains.now) Race prunes.within solution.0 solution.1)),
      (λ either. c.exists.ensures.1 (elim either [
        | inl raced ↦ absurd (false≢true (sym c.if-raced.false ∙ raced))
        | inr solution ↦ (solution.0, record { completes = prunes.retained solution.0 solution.1.completes; meets = solution.1.meets })
      ])),
    )
