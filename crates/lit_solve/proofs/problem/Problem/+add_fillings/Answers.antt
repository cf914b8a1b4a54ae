use Rattle.lit_solve.proofs.Words.{◌<◌, ◌∙◌, AddsFillings, ap, AreSources, box_with, events_on, Filling, HasValue, IsLeastFilling}
use Rattle.lit_solve.proofs.Words.{List, no_events, refl, size_of, slice_index_or, subst, sym, value_of, ℕ}
use Rattle.lit_solve.proofs.CompletionLemmas.{sourced}
use Rattle.lit_solve.proofs.FillLemmas.{sources_lie}
use Rattle.lit_solve.proofs.ObservedLemmas.{IsSeenBy, all_seen_by, same_stores_among, seen_more, some_differ, undecided_known}
use Rattle.lit_solve.proofs.PruningLemmas.{source_known}
use Rattle.lit_solve.proofs.SearchingLemmas.{left_less}
use Rattle.lit_solve.proofs.ReadValuesLemmas.{adds_more_fillings, adds_one_filling, fillings_out, one_filling, value_of_last, values_more}
use Rattle.lit_solve.proofs.problem.Problem.+add_fillings.Goals as goal
use Rattle.lit_solve.proofs.problem.Problem.+add_fillings.Goals.{then-restrict_independent+in_ok-add_fillings, else-restrict_independent}

pub digits_of-share-requires : goal.digits_of-share-requires
digits_of-share-requires t c =
    let some = c.least_filling-sources.ensures.completes in
    subst (AreSources (events_on c.args.self.now)) (some.2 ∙ sym c.as_slice.ensures.value)
    (sourced (box_with c.args.self.now c.args.domains.now) some.0 some.1)

pub returns-in-Known-clause-added : goal.returns-in-Known-clause-added
returns-in-Known-clause-added t c =
    let box = box_with c.args.self.now c.args.domains.now in
    adds_one_filling box c.args.read c.args.fillings.now.items c.push.new.self.items (record { value = c.in-Known.value; share = c.digits_of-share.result })
    (record {
      sources = c.as_slice.result.now;
      least = subst (IsLeastFilling box c.args.read c.in-Known.value) (sym c.as_slice.ensures.value)
          (one_filling c.laws_below.ensures box c.requires.independent c.leaves_are_filled_read_by_read.ensures c.args.read
          c.least_filling-sources.result.items c.in-Known.value c.least_filling-sources.ensures.completes c.least_filling-sources.ensures.least
          c.in-Known.ensures);
      share = c.digits_of-share.ensures;
    }) c.in_ok-push-in-Known.ensures.items

pub returns-in-Known-clause-whole : goal.returns-in-Known-clause-whole
returns-in-Known-clause-whole t c x is =
    let box = box_with c.args.self.now c.args.domains.now in
    value_of_last c.args.fillings.now.items c.push.new.self.items (record { value = c.in-Known.value; share = c.digits_of-share.result })
    (value_of (events_on c.args.self.now) x.sources c.args.read) c.in_ok-push-in-Known.ensures.items
    (sym (c.in-Known.ensures x.sources (sources_lie box x is)))

pub storing_same-group-requires : goal.storing_same-group-requires
storing_same-group-requires t c =
    let box = box_with c.args.self.now c.args.domains.now in
    let inside = undecided_known box c.in-Open.place c.in-Open.ensures.0 in
    let known = λ (w : ℕ). source_known box c.requires.independent.is_box c.in-Open.place w inside in
    record {
      place = inside;
      source = known c.in-Some.source (c.loop-source.invariant.within c.in-Some.source c.in-Some.ensures.there);
      known = known;
    }

pub restrict_independent-requires-clause-place : goal.restrict_independent-requires-clause-place
restrict_independent-requires-clause-place t c =
    undecided_known (box_with c.args.self.now c.args.domains.now) c.in-Open.place c.in-Open.ensures.0

pub add_fillings-requires : goal.add_fillings-requires
add_fillings-requires t c =
    let box = box_with c.args.self.now c.args.domains.now in
    let place = c.in-Open.place in
    let matching = same_stores_among box place c.in-Some.source (slice_index_or c.args.domains.now c.in-Open.place no_events) c.storing_same-group.result (λ w. (λ h. h, λ h. h))
    c.storing_same-group.ensures in
    let there = c.loop-source.invariant.within c.in-Some.source c.in-Some.ensures.there in (
      subst (λ (n : ℕ). size_of c.restrict_independent.new.domains < n) c.decreases
          (c.restrict_independent.ensures.less c.if-restrict_independent.true
          (some_differ box place c.in-Some.source c.storing_same-group.result (undecided_known box place c.in-Open.ensures.0) c.in-Open.ensures.0 there matching)),
      (c.requires.read, c.restrict_independent.ensures.independent c.if-restrict_independent.true),
    )

pub returns-in_err-add_fillings-clause-added : goal.returns-in_err-add_fillings-clause-added
returns-in_err-add_fillings-clause-added t c =
    let box = box_with c.args.self.now c.args.domains.now in
    let place = c.in-Open.place in
    let matching = same_stores_among box place c.in-Some.source (slice_index_or c.args.domains.now c.in-Open.place no_events) c.storing_same-group.result (λ w. (λ h. h, λ h. h))
    c.storing_same-group.ensures in
    adds_more_fillings box c.args.read c.args.fillings.now.items c.loop-source.fillings.items c.add_fillings.new.fillings.items c.loop-source.invariant.added
    (fillings_out c.laws_below.ensures box c.requires.independent c.leaves_are_filled_read_by_read.ensures c.events-events.ensures.sound c.args.read place
    (undecided_known box place c.in-Open.ensures.0) c.in-Open.ensures.1 c.in-Some.source c.storing_same-group.result matching c.restrict_independent.new.domains
    (c.restrict_independent.ensures.restricted c.if-restrict_independent.true) (c.restrict_independent.ensures.independent c.if-restrict_independent.true)
    c.loop-source.fillings.items c.add_fillings.new.fillings.items c.add_fillings.ensures.added)

pub loop-source-smaller : goal.loop-source-smaller
loop-source-smaller t c =
    left_less c.loop-source.left c.in-Some.source c.in-Some._others c.storing_same-group.result c.difference-left.result c.in-Some.ensures
    c.difference-left.ensures
    ((c.storing_same-group.ensures c.in-Some.source).1 (c.loop-source.invariant.within c.in-Some.source c.in-Some.ensures.there, refl))

pub loop-source-preserved : goal.loop-source-preserved
loop-source-preserved t c =
    let box = box_with c.args.self.now c.args.domains.now in
    let place = c.in-Open.place in
    let group = c.storing_same-group.result in
    let rest = c.difference-left.result in
    let old = c.args.fillings.now.items in
    let mid = c.loop-source.fillings.items in
    let matching = same_stores_among box place c.in-Some.source (slice_index_or c.args.domains.now c.in-Open.place no_events) group (λ w. (λ h. h, λ h. h)) c.storing_same-group.ensures in
    let goes : AddsFillings box c.args.read old c.if-restrict_independent.fillings.items
    × IsSeenBy (λ x. HasValue c.if-restrict_independent.fillings.items (value_of (events_on c.args.self.now) x.sources c.args.read)) box place rest =
    elim c.if-restrict_independent.branch [
      | then-restrict_independent+in_ok-add_fillings w ↦
          subst (λ (fs : List Filling). AddsFillings box c.args.read old fs
          × IsSeenBy (λ x. HasValue fs (value_of (events_on c.args.self.now) x.sources c.args.read)) box place rest) (sym (ap (λ v. v.items) w.fillings-is))
          (values_more c.laws_below.ensures box c.requires.independent c.leaves_are_filled_read_by_read.ensures c.events-events.ensures.sound c.args.read
          place (undecided_known box place c.in-Open.ensures.0) c.in-Open.ensures.1 c.in-Some.source group matching c.restrict_independent.new.domains
          (c.restrict_independent.ensures.restricted w.if-restrict_independent.true) (c.restrict_independent.ensures.independent w.if-restrict_independent.true) old mid
          w.add_fillings.new.fillings.items c.loop-source.left rest c.difference-left.ensures c.loop-source.invariant.added
          c.loop-source.invariant.seen w.add_fillings.ensures.added w.in_ok-add_fillings.ensures.whole)
      | else-restrict_independent w ↦
          subst (λ (fs : List Filling). AddsFillings box c.args.read old fs
          × IsSeenBy (λ x. HasValue fs (value_of (events_on c.args.self.now) x.sources c.args.read)) box place rest) (sym (ap (λ v. v.items) w.fillings-is)) (
            c.loop-source.invariant.added,
            seen_more (λ x. HasValue mid (value_of (events_on c.args.self.now) x.sources c.args.read)) box place (undecided_known box place c.in-Open.ensures.0) c.loop-source.left group
                rest c.difference-left.ensures (λ x is takes. absurd (c.restrict_independent.ensures.none w.if-restrict_independent.false x is takes))
                c.loop-source.invariant.seen,
          )
    ] in
    record {
      within = λ w there. c.loop-source.invariant.within w ((c.difference-left.ensures w).0 there).0;
      added = goes.0;
      seen = goes.1;
    }

pub returns-clause-whole : goal.returns-clause-whole
returns-clause-whole t c =
    all_seen_by (λ x. HasValue c.loop-source.fillings.items (value_of (events_on c.args.self.now) x.sources c.args.read))
    (box_with c.args.self.now c.args.domains.now) c.in-Open.place
    (undecided_known (box_with c.args.self.now c.args.domains.now) c.in-Open.place c.in-Open.ensures.0) c.loop-source.left c.in_default.ensures
    c.loop-source.invariant.seen
