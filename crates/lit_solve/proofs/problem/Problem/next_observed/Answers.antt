use Rattle.lit_solve.proofs.Words.{box_of, IfSome, IsObservation, None, Option, Some, subst, sym, unwrap_or, ℕ}
use Rattle.lit_solve.proofs.problem.Problem.next_observed.Goals as goal

-- what holds of what is found, if anything is, and of another one
either : (P : ℕ → Type 0) (found : Option ℕ) (other : ℕ) → IfSome found P → P other → P (unwrap_or found other)
either P None other _ is = is
either P (Some k) other is _ = is

pub returns-clause-observed : goal.returns-clause-observed
returns-clause-observed c =
    let P = λ (k : ℕ). IsObservation (box_of c.args.self.now c.args.frame.now) c.observe.new.values.items (Some k) in
    subst P (sym c.unwrap_or.ensures)
    (either P c.forcing_observed.result c.in_ok-open.open c.forcing_observed.ensures c.in_ok-open.ensures.observed)
