use Rattle.lit_solve.proofs.Words.{◌+◌, ◌<◌, box_with, byte_read_at, CanFillOn, CanFillWith, events_on, false≢true, HasEvent, HasSource}
use Rattle.lit_solve.proofs.Words.{length, refl, split_less, split_less_yet, ℕ}
use Rattle.lit_solve.proofs.FillingLemmas.{fill_with, filled_at_end, filled_with, dominated_in_vain, next_filled, next_filled_back}
use Rattle.lit_solve.proofs.ReadByteLemmas.{none_later, read_there, vain_more}
use Rattle.lit_solve.proofs.problem.Problem.+fills_on.Goals as goal
use Rattle.lit_solve.proofs.problem.Problem.+fills_on.Goals.{At-loop-source}

pub returns-then-not-is_of : goal.returns-then-not-is_of
returns-then-not-is_of t c =
    let box = box_with c.args.self.now c.args.domains.now in
    let none = none_later (events_on c.args.self.now) c.args.read c.args.place c.requires.room.later (λ here. false≢true (c.if-not-is_of.ensures.of.1 here)) in
    let end = filled_at_end box c.args.read c.requires.is_box c.requires.some c.args.place (HasEvent c.args.taken.whole) c.args.taken.value
    c.args.taken.bytes c.requires.room.place none in
    (λ h. end.1 (c.are_guards_true.ensures.0 h), λ h. c.are_guards_true.ensures.1 (end.0 h))

-- a source of the byte read is an event
source_known : (t : _) (c : At-loop-source t) (w : ℕ) → HasEvent c.loop-source.left w → w < length (events_on c.args.self.now)
source_known t c w there =
    let events = events_on c.args.self.now in
    let is = c.if-not-is_of.ensures.of.0 refl in
    (c.requires.is_box.candidates c.args.place c.args.read (byte_read_at events c.args.place).1 w (read_there events c.args.place c.args.read is.0 is.1)
    (c.loop-source.invariant.left w there)).known

pub take-requires-clause-source : goal.take-requires-clause-source
take-requires-clause-source t c = source_known t (goal.at.take-requires-clause-source t c).At-loop-source c.in-Some.source c.in-Some.ensures.there

pub worth_trying-left-requires-clause-source : goal.worth_trying-left-requires-clause-source
worth_trying-left-requires-clause-source t c =
    source_known t (goal.at.worth_trying-left-requires-clause-source t c).At-loop-source c.in-Some.source c.in-Some.ensures.there

pub worth_trying-left-requires-clause-known : goal.worth_trying-left-requires-clause-known
worth_trying-left-requires-clause-known t c v h =
    source_known t (goal.at.worth_trying-left-requires-clause-known t c).At-loop-source v ((c.in-Some.ensures.rest v).0 h).0

pub returns-then-fills_on : goal.returns-then-fills_on
returns-then-fills_on t c =
    let box = box_with c.args.self.now c.args.domains.now in
    let events = events_on c.args.self.now in
    let is = c.if-not-is_of.ensures.of.0 refl in
    let byte = (byte_read_at events c.args.place).1 in
    let filled = next_filled box c.args.read c.args.place byte c.in-Some.source c.args.taken c.in-Some-take.next c.in-Some-take.ensures
    (c.if-fills_on.ensures.0 refl) in (
      (λ _. fill_with box c.args.read c.args.place (HasEvent c.args.taken.whole) c.args.taken.value c.args.taken.bytes byte
          (read_there events c.args.place c.args.read is.0 is.1) c.in-Some.source
          (c.loop-source.invariant.left c.in-Some.source c.in-Some.ensures.there) filled),
      (λ _. refl),
    )

pub loop-source-smaller : goal.loop-source-smaller
loop-source-smaller t c = split_less c.loop-source.left c.in-Some.source c.in-Some.others c.in-Some.ensures

pub loop-source-smaller-in-Some-take : goal.loop-source-smaller-in-Some-take
loop-source-smaller-in-Some-take t c =
    split_less_yet c.loop-source.left c.in-Some.source c.in-Some.others c.worth_trying-left.result c.in-Some.ensures c.worth_trying-left.ensures.within

pub loop-source-preserved : goal.loop-source-preserved
loop-source-preserved t c =
    let box = box_with c.args.self.now c.args.domains.now in
    let byte = (byte_read_at (events_on c.args.self.now) c.args.place).1 in
    record {
      left = λ w h. c.loop-source.invariant.left w ((c.in-Some.ensures.rest w).0 h).0;
      in_vain = vain_more c.loop-source.left c.in-Some.others c.in-Some.others c.in-Some.source c.in-Some.ensures (HasSource box c.args.place)
          (λ w. ¬ CanFillWith box c.args.read c.args.place byte (HasEvent c.args.taken.whole) c.args.taken.value c.args.taken.bytes w)
          c.loop-source.invariant.in_vain (λ can. c.in_default-take.ensures can.0) (λ w there here gone. absurd (gone here));
    }

pub loop-source-preserved-in-Some-take : goal.loop-source-preserved-in-Some-take
loop-source-preserved-in-Some-take t c =
    let box = box_with c.args.self.now c.args.domains.now in
    let events = events_on c.args.self.now in
    let is = c.if-not-is_of.ensures.of.0 refl in
    let byte = (byte_read_at events c.args.place).1 in
    let in_vain : ¬ CanFillOn box c.args.read (c.args.place + 1) (HasEvent c.in-Some-take.next.whole) c.in-Some-take.next.value c.in-Some-take.next.bytes =
    λ can. false≢true (c.if-fills_on.ensures.1 can) in
    let dominated = dominated_in_vain box c.args.read c.args.place byte c.in-Some.source c.args.taken c.in-Some-take.next c.in-Some-take.ensures
    (read_there events c.args.place c.args.read is.0 is.1) in
    record {
      left = λ w h. c.loop-source.invariant.left w ((c.in-Some.ensures.rest w).0 (c.worth_trying-left.ensures.within w h)).0;
      in_vain = vain_more c.loop-source.left c.in-Some.others c.worth_trying-left.result c.in-Some.source c.in-Some.ensures (HasSource box c.args.place)
          (λ w. ¬ CanFillWith box c.args.read c.args.place byte (HasEvent c.args.taken.whole) c.args.taken.value c.args.taken.bytes w)
          c.loop-source.invariant.in_vain
          (λ can. in_vain (next_filled_back box c.args.read c.args.place byte c.in-Some.source c.args.taken c.in-Some-take.next c.in-Some-take.ensures can))
          (λ w there here gone. let same = c.worth_trying-left.ensures.dominated w here gone in dominated w in_vain same.0 same.1);
    }

pub returns : goal.returns
returns t c =
    let box = box_with c.args.self.now c.args.domains.now in
    let events = events_on c.args.self.now in
    let is = c.if-not-is_of.ensures.of.0 refl in
    let byte = (byte_read_at events c.args.place).1 in (
      (λ never. absurd (false≢true never)),
      (λ can.
          let by = filled_with box c.args.read c.args.place (HasEvent c.args.taken.whole) c.args.taken.value c.args.taken.bytes byte
          (read_there events c.args.place c.args.read is.0 is.1) can in
          absurd (c.loop-source.invariant.in_vain by.0 by.1 (c.in_default.ensures by.0) by.2)),
    )
