use Rattle.std.proofs.Common.{arith}
use Rattle.lit_rel.specs.Rows.{Holds, rows_len}
use Rattle.lit_why.proofs.StepLemmas.{both_known, is_shortest, not_led}
use Rattle.lit_why.proofs.chains.chain.Goals as goal
use Rattle.lit_why.proofs.chains.chain.Goals.{then-first-len-via-then-first-len, then-first-len-via-else-first-len+then-last-len}

pub returns-then-first-len : goal.returns-then-first-len
returns-then-first-len c middles chain =
    let known = both_known c.args.events.now (Holds c.args.synchronizes.now) (Holds c.steps_of-steps.result) c.steps_of-steps.ensures.pairs
    (rows_len c.steps_of-steps.result) (λ e d h. (h.first_known, h.second_known)) c.args.from middles c.args.to chain in
    elim c.then-first-len.branch [
      | then-first-len-via-then-first-len w ↦ omega (arith, known.0)
      | then-first-len-via-else-first-len+then-last-len w ↦ omega (arith, known.1)
    ]

pub returns-in-Some : goal.returns-in-Some
returns-in-Some c =
    let linked = rw (c.from-first.ensures, c.from-last.ensures) at c.links_along.ensures.linked in
    let below = rw (c.from-first.ensures, c.from-last.ensures) at c.in-Some.ensures in
    is_shortest c.args.events.now (Holds c.args.synchronizes.now) (Holds c.steps_of-steps.result) c.steps_of-steps.ensures.pairs
    c.args.from c.args.to c.in-Some.levels.items c.links_along.result.items below.0 linked
    (rw c.as_slice.ensures.value at c.links_along.ensures.count)

pub returns-in-None : goal.returns-in-None
returns-in-None c =
    not_led c.args.events.now (Holds c.args.synchronizes.now) (Holds c.steps_of-steps.result) c.steps_of-steps.ensures.pairs
    c.args.from c.args.to (rw (c.from-first.ensures, c.from-last.ensures) at c.in-None.ensures)
