use Rattle.lit_solve.proofs.Words.{[], box_with, Event, HappensBefore, Holds, length, List, rows_len, subst, ℕ, ◌↔◌, ◌≡◌}
use Rattle.lit_solve.proofs.OpeningLemmas.{unsourced_contained}
use Rattle.lit_solve.proofs.problem.Problem.unpropagated.Goals as goal

pub returns-clause-contained : goal.returns-clause-contained
returns-clause-contained c =
    let same = c.events.ensures.value in
    let rows = c.unsourced_order-before.result.rows in
    unsourced_contained (box_with c.args.self.now c.args.domains.now) c.unsourced_order-before.result
    (subst (λ (es : List Event). rows_len rows ≡ length es) same c.unsourced_order-before.ensures.len)
    (subst (λ (es : List Event). (e d : ℕ) → Holds rows e d ↔ HappensBefore es [] e d) same c.unsourced_order-before.ensures.pairs) c.requires.is_box
    c.requires.some
