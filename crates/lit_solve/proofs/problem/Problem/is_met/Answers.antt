use Rattle.lit_solve.proofs.Words.{AreCoherentSources, box_events, box_of, CanFillFrom, CanRaceIn, coherent_read_by, Goal, HappensBeforeIn}
use Rattle.lit_solve.proofs.Words.{HasDataRaceOf-wider, HasSolution, Holds, IsTrue, RacesIn, subst, sym, true}
use Rattle.lit_solve.proofs.problem.Problem.is_met.Goals as goal

pub returns-then-has_completion : goal.returns-then-has_completion
returns-then-has_completion c =
    let box = box_of c.args.self.now c.args.frame.now in
    let exact = c.requires.fixpoint.exact in
    let coherent : AreCoherentSources box = λ k r b w at there. coherent_read_by (box_events box) (Holds c.args.frame.now.happens_before.rows)
    (HappensBeforeIn box) exact.before r b w (c.requires.fixpoint.coherent k r b w at there) in
    let races = c.leaves_race_as_reads_are_filled.ensures box exact.contained.is_box c.requires.leaf coherent
    (c.has_completion-in-Race.ensures.0 c.if-has_completion.true) in
    let before = Holds c.args.frame.now.happens_before.rows in
    let out : RacesIn box before true → CanRaceIn box =
    HasDataRaceOf-wider (box_events box) before (HappensBeforeIn box) (CanFillFrom box) (CanFillFrom box) exact.before (λ r w can. can) in
    let back : CanRaceIn box → RacesIn box before true =
    HasDataRaceOf-wider (box_events box) (HappensBeforeIn box) before (CanFillFrom box) (CanFillFrom box) exact.contained.before_in (λ r w can. can) in
    subst (λ (g : Goal). (IsTrue c.races.result → HasSolution box g) × (HasSolution box g → IsTrue c.races.result)) (sym c.in-Race.is)
    ((λ can. races.1 (out (c.races.ensures.0 can))), (λ has. c.races.ensures.1 (back (races.0 has))))
