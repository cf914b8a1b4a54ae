use Rattle.lit_solve.proofs.Words.{arith, box_with, event_at, events_on, false≢true, HasRoom, inl, inr, refl, subst, sym, ℕ, ◌+◌, ◌≤◌}
use Rattle.lit_solve.proofs.PruningLemmas.{source_known}
use Rattle.lit_solve.proofs.ObservationLemmas.{composed_first, composed_last, composed_next}
use Rattle.lit_solve.proofs.ReadByteLemmas.{none_later, room_first}
use Rattle.lit_solve.proofs.problem.Problem.read_value.Goals as goal

pub bytes-init : goal.bytes-init
bytes-init c =
    let events = events_on c.args.self.now in
    let box = box_with c.args.self.now c.args.domains.now in
    let none = c.nothing-taken.result in
    let first = c.first_place-place in
    let size : (event_at events c.args.read).size ≤ 4 = elim (c.events-events.ensures.sound.sized c.args.read c.requires.read) [
      | inl one ↦ omega (arith, one)
      | inr more ↦ elim more [ inl two ↦ omega (arith, two) | inr four ↦ omega (arith, four) ]
    ] in
    record {
      room =
          room_first events c.args.read first.result none first.ensures.within (λ j q b le at. first.ensures.later j q b le at) size
          c.nothing-taken.ensures.value c.nothing-taken.ensures.bytes;
      composed =
          composed_first box c.args.read first.result none first.ensures.within first.ensures.before c.nothing-taken.ensures.value c.nothing-taken.ensures.bytes;
    }

pub with_byte-taken-requires-clause-source : goal.with_byte-taken-requires-clause-source
with_byte-taken-requires-clause-source c =
    source_known (box_with c.args.self.now c.args.domains.now) c.requires.is_box c.bytes.place c.in-Some.source
    (c.bytes-test.ensures.of.0 refl).0 c.in-Some.ensures.there

pub with_byte-taken-requires-clause-room : goal.with_byte-taken-requires-clause-room
with_byte-taken-requires-clause-room c =
    subst (λ (r : ℕ). HasRoom (events_on c.args.self.now) r c.bytes.place c.bytes.taken) (sym (c.bytes-test.ensures.of.0 refl).1) c.bytes.invariant.room

pub bytes-preserved : goal.bytes-preserved
bytes-preserved c =
    let is = c.bytes-test.ensures.of.0 refl in
    let next = c.with_byte-taken.ensures in
    record {
      room = subst (λ (r : ℕ). HasRoom (events_on c.args.self.now) r (c.bytes.place + 1) c.with_byte-taken.result) is.1 next.room;
      composed =
          composed_next (box_with c.args.self.now c.args.domains.now) c.args.read c.bytes.place c.in-Some.source c.bytes.taken c.with_byte-taken.result is.0 is.1
          c.if-has_other_byte.ensures next.value next.bytes c.bytes.invariant.composed;
    }

pub returns : goal.returns
returns c =
    composed_last (box_with c.args.self.now c.args.domains.now) c.args.read c.bytes.place c.bytes.taken
    (none_later (events_on c.args.self.now) c.args.read c.bytes.place c.bytes.invariant.room.later
    (λ here. false≢true (c.bytes-test.ensures.of.1 here))) c.bytes.invariant.composed
