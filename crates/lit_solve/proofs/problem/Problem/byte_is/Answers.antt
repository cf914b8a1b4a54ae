use Rattle.lit_solve.proofs.Words.{arith, box_with, common_steps, eq-eqb, event_or_not, refl, sym, ◌∙◌}
use Rattle.lit_solve.proofs.ReadValueLemmas.{undecided_by}
use Rattle.lit_solve.proofs.problem.Problem.byte_is.Goals as goal

pub returns-in_default-split_first : goal.returns-in_default-split_first
returns-in_default-split_first c w there =
    grind (arith, common_steps, eq-eqb, event_or_not, c.storing-storing.ensures, c.in_default-split_first.ensures, c.difference.ensures)

pub returns : goal.returns
returns c =
    let box = box_with c.args.self.now c.args.domains.now in
    let some = c.in-Some._some.0 in
    let other = c.in-Some-split_first._other.0 in
    let stores = (c.storing-storing.ensures some).0 c.in-Some.ensures.there in
    let differs = (c.difference.ensures other).0 c.in-Some-split_first.ensures.there in (
      refl,
      undecided_by box c.args.place some other c.requires.place stores.0 differs.0
          (λ same. differs.1 ((c.storing-storing.ensures other).1 (differs.0, sym same ∙ stores.1))),
    )
