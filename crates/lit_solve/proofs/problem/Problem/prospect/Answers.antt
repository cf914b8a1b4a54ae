use Rattle.lit_solve.proofs.Words.{Bool, Box, box_of, Execution, execution_events, false, false≢true, Goal, HasDataRace, Holds, IsCompletion}
use Rattle.lit_solve.proofs.Words.{IsProspect, IsTrue, MayRaceIn, subst, sym, true}
use Rattle.lit_solve.specs.declared.decided.Decided.TheVariants.{Known}
use Rattle.lit_solve.specs.declared.goal.Goal.TheVariants.{Race}
use Rattle.lit_solve.proofs.DisjunctionLemmas.{race_by_order}
use Rattle.lit_solve.proofs.RegisterLemmas.{prospect_of_completions}
use Rattle.lit_solve.proofs.problem.Problem.prospect.Goals as goal

pub returns-in-OfClass : goal.returns-in-OfClass
returns-in-OfClass c =
    let box = box_of c.args.self.now c.args.frame.now in
    subst (λ (g : Goal). IsProspect box g c.prospect_of.result) (sym c.in-OfClass.is)
    (prospect_of_completions c.laws_below.ensures box c.requires.fixpoint.exact.contained.is_box c.in-OfClass.class c.prospect_of.result c.prospect_of.ensures)

-- where no pair may race, no completion has a data race
race_decided : (box : Box) (may : Bool) → (MayRaceIn box → IsTrue may)
    → ((x : Execution) → IsCompletion box x → HasDataRace (execution_events box.test x) x.sources → MayRaceIn box) → IsProspect box Race (Known may)
race_decided box true given bound = λ x is. tt
race_decided box false given bound = λ x is race. false≢true (given (bound x is race))

pub returns-in-Race : goal.returns-in-Race
returns-in-Race c =
    let box = box_of c.args.self.now c.args.frame.now in
    subst (λ (g : Goal). IsProspect box g (Known c.races.result)) (sym c.in-Race.is)
    (race_decided box c.races.result
    (λ may. c.races.ensures.1 (race_by_order box (Holds c.args.ordered.now) c.requires.sound.ordered may))
    (λ x is. c.boxes_bound_races.ensures.may box x c.requires.fixpoint.exact.contained.is_box is))
