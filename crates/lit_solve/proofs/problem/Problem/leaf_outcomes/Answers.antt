use Rattle.lit_solve.proofs.problem.Problem.leaf_outcomes.Goals as goal

pub returns-in_default-clause-whole : goal.returns-in_default-clause-whole
returns-in_default-clause-whole g c x is = absurd (c.in_default.ensures.none x is)
