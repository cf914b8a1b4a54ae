use Rattle.lit_solve.proofs.Words.{ap, arith, byte_read_at, events_in, get_or, length, slice_get-get_or, Some, sym, ℕ, ◌∙◌}
use Rattle.lit_solve.proofs.CandidateLemmas.{has_all, has_more}
use Rattle.lit_solve.proofs.domains.candidates_of.Goals as goal

pub with-candidates-requires : goal.with-candidates-requires
with-candidates-requires c =
    let list = c.candidates-event-items.result.now in
    let n = c.loop-event.event-index in
    omega (
      arith,
      (c.candidates-event-items.ensures.lists.only n (get_or list n 0) (slice_get-get_or list n 0 c.loop-event-test.true)).known,
      c.events-events.ensures.sound.few,
      ap length c.events-events.ensures.value,
    )

pub loop-event-preserved : goal.loop-event-preserved
loop-event-preserved c =
    let list = c.candidates-event-items.result.now in
    let n = c.loop-event.event-index in
    has_more c.loop-event.candidates c.with-candidates.result list n c.from.result c.loop-event.invariant
    (slice_get-get_or list n 0 c.loop-event-test.true ∙ ap (λ (w : ℕ). Some w) (sym c.from.ensures)) c.with-candidates.ensures

pub returns : goal.returns
returns c =
    let events = events_in c.args.combination.now.0 c.args.combination.now.1 in
    has_all c.loop-event.candidates c.candidates-event-items.result.now c.loop-event.event-index events (byte_read_at events c.args.place).0
    (byte_read_at events c.args.place).1
    c.loop-event.invariant c.loop-event-test.false c.candidates-event-items.ensures.lists
