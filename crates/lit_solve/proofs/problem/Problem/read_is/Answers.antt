use Rattle.lit_solve.proofs.Words.{◌+◌, ◌<◌, ◌^◌, ap, arith, Bool, Box, box_with, byte_read_at, byte_reads, ByteRead, cases_lt, common_steps, Decided}
use Rattle.lit_solve.proofs.Words.{Event, event_at, events_on, false≢true, inl, inr, IsByteDecided, IsUndecidedAt, List, pair_of}
use Rattle.lit_solve.proofs.Words.{slice_get, Some, subst, sym, ℕ, ◌∙◌, ◌≡◌, ◌≤◌}
use Rattle.lit_solve.specs.declared.decided.Decided.TheVariants.{Known}
use Rattle.lit_solve.proofs.ReadValueLemmas.{IsDecidedBelow, byte_at, decided_all, decided_next, other_byte, too_large}
use Rattle.lit_solve.proofs.problem.Problem.read_is.Goals.{then-from-read+in-Known-true, then-from-read+in-Open, else-from-read}
use Rattle.lit_solve.proofs.problem.Problem.read_is.Goals as goal

-- an event that was found among these
event_on : {events others : List Event} {e : Event} (read : ℕ) → e ≡ event_at events read → events ≡ others → e ≡ event_at others read
event_on read found is = found ∙ ap (λ (es : List Event). event_at es read) is

-- a byte read that is of a read
byte_of : (events : List Event) (place read : ℕ) (at : ByteRead) → slice_get (byte_reads events) place ≡ Some (pair_of at) → at.read ≡ read
    → slice_get (byte_reads events) place ≡ Some (read, at.byte)
byte_of events place read at here is = here ∙ ap (λ (n : ℕ). Some (n, at.byte)) is

-- what was decided of a byte that is the same
decided_on : (box : Box) (place : ℕ) {b same : ℕ} {d d_same : Decided Bool} → b ≡ same → d ≡ d_same → IsByteDecided box place b d
    → IsByteDecided box place same d_same
decided_on box place {b} {same} {d} {d_same} byte decided is =
    subst (λ (v : ℕ). IsByteDecided box place v d_same) byte (subst (IsByteDecided box place b) decided is)

pub returns-then-not-fits : goal.returns-then-not-fits
returns-then-not-fits c =
    let p = c.args.self.now in
    let size = (event_at (events_on p) c.args.read).size in
    let event_is = event_on c.args.read c.event_at-event.ensures c.events.ensures.value in
    let large : 256 ^ size ≤ c.args.value = elim (cases_lt c.args.value (256 ^ size)) [
      | inl below ↦
          absurd (false≢true (sym c.if-not-fits.true ∙ c.fits.ensures.1 (subst (λ (e : Event). c.args.value < 256 ^ e.size) (sym event_is) below)))
      | inr above ↦ above
    ] in
    too_large (box_with p c.args.domains.now) c.args.read c.args.value c.events.ensures.sound c.requires.known c.requires.reads large

pub overflow_sub-at : goal.overflow_sub-at
overflow_sub-at c =
    let events = events_on c.args.self.now in
    let event_is = event_on c.args.read c.event_at-event.ensures c.events.ensures.value in
    let at = c.byte_read-at.result in
    let here = byte_of events c.loop-place.place c.args.read at c.byte_read-at.ensures.at (sym c.from.ensures ∙ c.if-from-read.true) in
    let range = (c.laws_below.ensures.of_events events).in_range c.loop-place.place c.args.read at.byte here in
    omega (arith, range.0, ap (λ (e : Event). e.first) event_is)

pub bounds-bytes-from : goal.bounds-bytes-from
bounds-bytes-from c =
    let events = events_on c.args.self.now in
    let event_is = event_on c.args.read c.event_at-event.ensures c.events.ensures.value in
    let at = c.byte_read-at.result in
    let here = byte_of events c.loop-place.place c.args.read at c.byte_read-at.ensures.at (sym c.from.ensures ∙ c.if-from-read.true) in
    let range = (c.laws_below.ensures.of_events events).in_range c.loop-place.place c.args.read at.byte here in
    let first = ap (λ (e : Event). e.first) event_is in
    elim (c.events.ensures.sound.sized c.args.read c.requires.known) [
      | inl one ↦ omega (arith, one, range.1, first, c.from-then-from-read.ensures)
      | inr more ↦ elim more [
        | inl two ↦ omega (arith, two, range.1, first, c.from-then-from-read.ensures)
        | inr four ↦ omega (arith, four, range.1, first, c.from-then-from-read.ensures)
      ]
    ]

pub returns-in-Known-false : goal.returns-in-Known-false
returns-in-Known-false c =
    let p = c.args.self.now in
    let box = box_with p c.args.domains.now in
    let event_is = event_on c.args.read c.event_at-event.ensures c.events.ensures.value in
    let at = c.byte_read-at.result in
    let here = byte_of (events_on p) c.loop-place.place c.args.read at c.byte_read-at.ensures.at (sym c.from.ensures ∙ c.if-from-read.true) in
    let byte = byte_at c.args.value c.to_le_bytes-bytes.result c.from-then-from-read.result at.byte (event_at (events_on p) c.args.read).first
    c.event_at-event.result.now.first c.to_le_bytes-bytes.ensures c.from-then-from-read.ensures (ap (λ (e : Event). e.first) event_is) in
    let comes = c.in-Known-false.is ∙ ap (λ (b : Bool). Known b) c.in-Known-false.field-0-test in
    other_byte box c.args.read c.args.value c.events.ensures.sound c.requires.known c.requires.reads c.loop-place.place at.byte here
    (decided_on box c.loop-place.place byte comes c.byte_is.ensures)

pub loop-place-preserved : goal.loop-place-preserved
loop-place-preserved c =
    let p = c.args.self.now in
    let box = box_with p c.args.domains.now in
    let event_is = event_on c.args.read c.event_at-event.ensures c.events.ensures.value in
    let at = c.byte_read-at.result in
    let place = c.loop-place.place in
    let next = decided_next box c.args.read c.args.value c.events.ensures.sound c.requires.known c.requires.reads place (pair_of at)
    c.loop-place.decided c.byte_read-at.ensures.at in
    elim c.if-from-read.branch [
      | then-from-read+in-Known-true w ↦
          let byte = byte_at c.args.value c.to_le_bytes-bytes.result w.from-then-from-read.result at.byte (event_at (events_on p) c.args.read).first
          c.event_at-event.result.now.first c.to_le_bytes-bytes.ensures w.from-then-from-read.ensures (ap (λ (e : Event). e.first) event_is) in
          let comes = w.in-Known-true.is ∙ ap (λ (b : Bool). Known b) w.in-Known-true.field-0-test in
          subst (IsDecidedBelow box c.args.read c.args.value (place + 1)) (sym w.decided-is)
          (next (inr (decided_on box place byte comes w.byte_is.ensures)) c.loop-place.invariant)
      | then-from-read+in-Open w ↦
          subst (IsDecidedBelow box c.args.read c.args.value (place + 1)) (sym w.decided-is)
          (subst (λ (k : ℕ). IsUndecidedAt box k × ((byte_read_at (events_on p) k).0 ≡ c.args.read)) (sym w.in-Open.ensures.0) (
            w.in-Open.ensures.1,
            ap (λ (q : ℕ × ℕ). q.0) (sym c.byte_read-at.ensures.is) ∙ sym c.from.ensures ∙ w.if-from-read.true,
          ))
      | else-from-read w ↦
          subst (IsDecidedBelow box c.args.read c.args.value (place + 1)) (sym w.decided-is)
          (next (inl (λ same. w.if-from-read.false (c.from.ensures ∙ same))) c.loop-place.invariant)
    ]

pub returns : goal.returns
returns c = grind (arith, common_steps, decided_all, event_on)
