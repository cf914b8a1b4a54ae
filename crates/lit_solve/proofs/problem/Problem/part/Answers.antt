use Rattle.lit_solve.proofs.Words.{[], arith, Bool, box_with, MatchBool, stored_for, subst, sym, ◌≡◌}
use Rattle.lit_solve.proofs.problem.Problem.part.Goals as goal

pub set_of-requires : goal.set_of-requires
set_of-requires c =
    omega (arith, c.requires.known c.args.source c.requires.there)

pub returns-else-branch-clause-apart : goal.returns-else-branch-clause-apart
returns-else-branch-clause-apart c w there =
    let box = box_with c.args.self.now [] in
    subst (λ (b : Bool). MatchBool b (stored_for box c.args.branch.place w ≡ stored_for box c.args.branch.place c.args.source) (w ≡ c.args.source))
    (sym c.if-branch.false) ((c.set_of.ensures w).0 there)
