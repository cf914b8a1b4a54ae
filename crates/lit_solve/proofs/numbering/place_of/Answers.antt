use Rattle.lit_solve.proofs.Words.{◌∙◌, ap, slice_get-get_or, Some, ℕ}
use Rattle.lit_solve.proofs.NumberLemmas.{first_place_is}
use Rattle.lit_solve.proofs.numbering.place_of.Goals as goal

pub returns-then-other-event-clause-value : goal.returns-then-other-event-clause-value
returns-then-other-event-clause-value c =
    first_place_is c.args.events.now c.args.event c.loop-place.place
    (slice_get-get_or c.args.events.now c.loop-place.place 0 c.loop-place-test.true ∙ ap (λ (e : ℕ). Some e) c.if-other-event.true)
    c.loop-place.invariant
