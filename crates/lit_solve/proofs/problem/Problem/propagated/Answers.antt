use Rattle.lit_solve.proofs.Words.{arith, box_of, box_with, common_steps, EventSet, IsCompletion, List, subst, sym}
use Rattle.lit_solve.proofs.DomainLemmas.{prunes_on}
use Rattle.lit_solve.proofs.FrameLemmas.{not_true}
use Rattle.lit_solve.proofs.problem.Problem.propagated.Goals as goal
use Rattle.lit_solve.proofs.problem.Problem.propagated.Goals.{else-propagate-via-then-propagate+else-can_fill_each, else-propagate-via-else-propagate}

pub can_fill_each-requires-clause-is_box : goal.can_fill_each-requires-clause-is_box
can_fill_each-requires-clause-is_box c = (c.propagate.ensures.fixpoint c.if-propagate.true).exact.contained.is_box

pub can_fill_each-requires-clause-some : goal.can_fill_each-requires-clause-some
can_fill_each-requires-clause-some c = (c.propagate.ensures.fixpoint c.if-propagate.true).exact.contained.some

pub returns-then-can_fill_each-clause-prunes : goal.returns-then-can_fill_each-clause-prunes
returns-then-can_fill_each-clause-prunes c = grind (arith, common_steps, prunes_on, c.propagate.ensures.prunes)

-- a completion of the box would fill each read
pub returns-else-propagate-clause-none : goal.returns-else-propagate-clause-none
returns-else-propagate-clause-none c x is =
    let Completes : List EventSet → Type 0 = λ domains. IsCompletion (box_with c.args.self.now domains) x in
    let begun : IsCompletion (box_of c.args.self.now c.unpropagated-frame.result) x =
    subst Completes (sym c.unpropagated-frame.ensures.domains) is in
    elim c.else-propagate.branch [
      | else-propagate-via-then-propagate+else-can_fill_each w ↦
          let is_box = (c.propagate.ensures.fixpoint w.if-propagate.true).exact.contained.is_box in
          let retained = (c.propagate.ensures.prunes w.if-propagate.true).retained x begun in
          let fills = c.completions_fill_each_read.ensures (box_of c.args.self.now c.propagate.new.frame) x in
          not_true w.can_fill_each.result w.if-can_fill_each.false (w.can_fill_each.ensures.1 (λ r known. fills r is_box retained known))
      | else-propagate-via-else-propagate w ↦ c.propagate.ensures.none w.if-propagate.false x begun
    ]
