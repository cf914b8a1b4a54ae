use Rattle.lit_solve.proofs.Words.{arith, box_with, event_at, events_on, HasEvent, inl, inr, refl, Some, sym, ◌∙◌, ◌≡◌, ◌≤◌}
use Rattle.lit_solve.proofs.Words.{ap, Event, HasFalseGuardOn, Litmus, subst, ℕ}
use Rattle.lit_solve.proofs.FillingLemmas.{CanFillOn-same, filled_from}
use Rattle.lit_solve.proofs.OneByteLemmas.{one_byte_filled}
use Rattle.lit_solve.proofs.ReadByteLemmas.{room_first}
use Rattle.lit_solve.proofs.problem.Problem.can_fill.Goals as goal

pub fills_on-requires-clause-room : goal.fills_on-requires-clause-room
fills_on-requires-clause-room c =
    let events = events_on c.args.self.now in
    let size : (event_at events c.args.read).size ≤ 4 = elim (c.events-events.ensures.sound.sized c.args.read c.requires.read) [
      | inl one ↦ omega (arith, one)
      | inr more ↦ elim more [ inl two ↦ omega (arith, two) | inr four ↦ omega (arith, four) ]
    ] in
    room_first events c.args.read c.first_place.result c.nothing.result c.first_place.ensures.within (λ j q b le at. c.first_place.ensures.later j q b le at)
    size c.nothing.ensures.value c.nothing.ensures.bytes

pub returns : goal.returns
returns c =
    let box = box_with c.args.self.now c.args.domains.now in
    let none = c.nothing.result in
    let from = filled_from box c.args.read c.requires.is_box c.requires.some (HasEvent none.whole) c.nothing.ensures.whole c.first_place.result
    c.first_place.ensures.within c.first_place.ensures.before in
    let place = c.first_place.result in (
      λ h. from.0
          (CanFillOn-same box c.args.read place (HasEvent none.whole) (HasEvent none.whole) none.value none.bytes 0 0 (λ v there. there)
          (sym c.nothing.ensures.value) (sym c.nothing.ensures.bytes) (c.fills_on.ensures.0 h)),
      λ can. c.fills_on.ensures.1
          (CanFillOn-same box c.args.read place (HasEvent none.whole) (HasEvent none.whole) 0 0 none.value none.bytes (λ v there. there)
          c.nothing.ensures.value c.nothing.ensures.bytes (from.1 can)),
    )

pub returns-then-event_at-eq1 : goal.returns-then-event_at-eq1
returns-then-event_at-eq1 c =
    let box = box_with c.args.self.now c.args.domains.now in
    let is : c.event_at.result.now ≡ event_at (events_on c.args.self.now) c.args.read = rw (c.events-events.ensures.value, c.from.ensures) at c.event_at.ensures in
    let one : (event_at (events_on c.args.self.now) c.args.read).size ≡ 1 = sym (ap (λ (e : Event). e.size) is) ∙ c.if-event_at-eq1.true in (
      (λ _. one_byte_filled box c.args.read one c.requires.is_box c.requires.some (λ value.
          subst (λ (p : Litmus × ℕ). ¬ HasFalseGuardOn p.0 p.1 (Some c.args.read) value) c.self.view_is
          (c.self.invariant.unguarded c.if-not-self.true (Some c.args.read) value))),
      (λ _. refl),
    )
