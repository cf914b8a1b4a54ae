use Rattle.lit_solve.proofs.Words.{box_of, IsOrderOfBox, subst, sym, TwoWayRows}
use Rattle.lit_solve.proofs.DisjunctionLemmas.{given_sound}
use Rattle.lit_solve.proofs.problem.Problem.is_promising.Goals.{then-eq, else-eq}
use Rattle.lit_solve.proofs.problem.Problem.is_promising.Goals as goal

pub put_all_ordered-requires-clause-sound : goal.put_all_ordered-requires-clause-sound
put_all_ordered-requires-clause-sound c =
    given_sound (box_of c.args.self.now c.args.frame.now) c.args.frame.now c.requires.fixpoint.exact.contained

pub prospect-requires-clause-sound : goal.prospect-requires-clause-sound
prospect-requires-clause-sound c =
    let box = box_of c.args.self.now c.args.frame.now in
    elim c.if-eq.branch [
      | then-eq w ↦ subst (λ (o : TwoWayRows). IsOrderOfBox box o.rows) (sym w.ordered-is) w.put_all_ordered.ensures
      | else-eq w ↦ subst (λ (o : TwoWayRows). IsOrderOfBox box o.rows) (sym w.ordered-is)
          (given_sound box c.args.frame.now c.requires.fixpoint.exact.contained)
    ]
