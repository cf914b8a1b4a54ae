use Rattle.lit_solve.proofs.Words.{ap, events_on, false≢true, HasEffect, pair_of, same_Some, subst, sym, ℕ, ◌∙◌, ◌≡◌}
use Rattle.lit_solve.proofs.problem.Problem.forces.Goals as goal

pub returns-in-Some : goal.returns-in-Some
returns-in-Some c idle r b w at alone effect =
    let source : w ≡ c.in-Some.source = c.in-Some.ensures.0.alone w alone.there in
    let read : r ≡ c.from-read.result =
    ap (λ (p : ℕ × ℕ). p.0) (same_Some (r, b) (pair_of c.byte_read.result) (sym at ∙ c.byte_read.ensures.at)) ∙ sym c.from-read.ensures in
    false≢true (sym idle ∙ c.has_effect.ensures.1 (subst (λ (v : ℕ). HasEffect (events_on c.args.self.now) v c.from-read.result) source (subst (HasEffect (events_on c.args.self.now) w) read effect)))

pub returns-in-None : goal.returns-in-None
returns-in-None c _ r b w at alone = absurd (c.in-None.ensures w alone)
