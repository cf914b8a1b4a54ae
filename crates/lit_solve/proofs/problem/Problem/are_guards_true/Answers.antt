use Rattle.lit_solve.proofs.Words.{ap, HasFalseGuardOn, Litmus, not, Some, subst, ℕ}
use Rattle.lit_solve.proofs.problem.Problem.are_guards_true.Goals as goal

pub returns-then-not-self : goal.returns-then-not-self
returns-then-not-self c =
    let none = c.self.invariant.unguarded c.if-not-self.true (Some c.args.read) c.args.value in
    let at_view = subst (λ (p : Litmus × ℕ). ¬ HasFalseGuardOn p.0 p.1 (Some c.args.read) c.args.value) c.self.view_is none in
    (λ _. at_view, λ _. ap not c.if-not-self.true)
