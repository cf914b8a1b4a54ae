use Rattle.lit_solve.proofs.Words.{◌∙◌, AreSources, arith, box_events, box_with, common_steps, events_in, false≢true, HasOutcome}
use Rattle.lit_solve.proofs.Words.{Litmus, subst, sym, ℕ}
use Rattle.lit_solve.proofs.CompletionLemmas.{sourced}
use Rattle.lit_solve.proofs.EntryLemmas.{adds_one, each_recorded, least_entry}
use Rattle.lit_solve.proofs.problem.Problem.record.Goals as goal

pub number_of-choice-requires : goal.number_of-choice-requires
number_of-choice-requires g c =
    let box = box_with c.args.self.now c.args.frame.now.domains in
    let least = c.in-Some.ensures in
    subst (λ (p : Litmus × ℕ). AreSources (events_in p.0 p.1) c.as_slice.result.now) (sym c.self.view_is)
    (subst (AreSources (box_events box)) (least.same ∙ sym c.as_slice.ensures.value) (sourced box least.execution least.solves.completes))

pub returns-clause-added : goal.returns-clause-added
returns-clause-added g c =
    let lacked : ¬ HasOutcome (g.T.OutcomeTable.entries c.args.table.now) c.args.outcome.now =
    λ has. false≢true (sym c.if-has.false ∙ c.has.ensures.1 has) in
    grind (arith, common_steps, adds_one, least_entry, c.requires.same, c.in-Some.ensures)

pub returns-clause-whole : goal.returns-clause-whole
returns-clause-whole g c =
    each_recorded (box_with c.args.self.now c.args.frame.now.domains) c.args.outcome.now c.requires.same (g.T.OutcomeTable.entries
    c.args.table.now)
    (g.T.OutcomeTable.entries c.record.new.self) c.number_of-choice.result c.in-Some.least.order.items c.in_ok-record.ensures.ok
