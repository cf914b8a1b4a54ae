use Rattle.lit_solve.proofs.Words.{ap, slice_index_or, Some, sym, ℕ, ◌∙◌}
use Rattle.lit_solve.proofs.problem.Problem.forcing_observed.Goals as goal

pub returns-in-Some-forcing_byte : goal.returns-in-Some-forcing_byte
returns-in-Some-forcing_byte c =
    let is = c.in-Some-forcing_byte.ensures in
    (is.0, is.1, (slice_index_or c.self.inside.names.now c.loop-i.i (0, 0), sym c.in-Some.ensures.value ∙ ap (λ (q : ℕ). Some q) (sym is.2)))
