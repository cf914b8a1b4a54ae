use Rattle.std.proofs.Common.{◌≡◌, ◌↔◌, ◌-◌, ◌<◌, ◌≤◌, ℕ, List, arith, inl, inr, length, refl, subst, sym, true}
use Rattle.std.specs.Prelude.{slice_index_or}
use Rattle.lit_paths.specs.ByteReads.{byte_reads}
use Rattle.lit_paths.specs.declared.limits.TheConstants.{BYTE_READ_LIMIT}
use Rattle.lit_rel.specs.EventSet.{HasEvent, no_events}
use Rattle.lit_rel.proofs.SetLemmas.{split_less}
use Rattle.lit_solve.specs.Box.{box_with, events_on}
use Rattle.lit_solve.proofs.PruningLemmas.{source_known}
use Rattle.lit_why.specs.declared.cases.covering.Case.{Case}
use Rattle.lit_why.specs.Internal.Cutting.{AddsCases}
use Rattle.lit_why.proofs.CaseLemmas.{all_covered, cases_more, covers_itself, covers_more, next_is_box, none_covered, others_within}
use Rattle.lit_why.proofs.TrialLemmas.{events_are}
use Rattle.lit_why.proofs.cases.covering.+add_cases.Goals as goal

pub returns-in-Some-clause-cases : goal.returns-in-Some-clause-cases
returns-in-Some-clause-cases t c =
    let box = box_with c.args.problem.now c.args.domains.now in
    subst (λ (new : List Case). AddsCases box c.args.cases.now.items new true) (sym c.in_ok-push.ensures.items)
    (covers_itself box c.args.cases.now.items (record { domains = c.args.domains.now; refusal = c.in-Some.refusal }) refl
    c.requires.is_box c.in-Some.ensures)

pub loop-source-init : goal.loop-source-init
loop-source-init t c =
    let box = box_with c.args.problem.now c.args.domains.now in
    let place = c.in-Some-cutting_place.place in
    record {
      within = λ w h. h;
      covers = none_covered box place c.in-Some-cutting_place.ensures (slice_index_or c.args.domains.now place no_events) (λ w h. h)
          c.args.cases.now.items;
      few = c.requires.few;
    }

pub with-requires : goal.with-requires
with-requires t c =
    let p = c.args.problem.now in
    let box = box_with p c.args.domains.now in
    let sound = events_are p c.combination.result.now c.events-events.result.now c.events-events.ensures.value
    c.events-events.ensures.sound c.combination.ensures in
    let known = source_known box c.requires.is_box c.in-Some-cutting_place.place c.in-Some-split_first.source
    c.in-Some-cutting_place.ensures
    (c.loop-source.invariant.within c.in-Some-split_first.source c.in-Some-split_first.ensures.there) in
    omega (arith, known, sound.few)

pub add_cases-requires : goal.add_cases-requires
add_cases-requires t c =
    let p = c.args.problem.now in
    let box = box_with p c.args.domains.now in
    let place = c.in-Some-cutting_place.place in
    let sound = events_are p c.combination.result.now c.events-events.result.now c.events-events.ensures.value
    c.events-events.ensures.sound c.combination.ensures in
    let few : length (byte_reads (events_on p)) ≤ BYTE_READ_LIMIT = sound.few_reads in
    let room : place < length box.domains = omega (arith, few, c.in-Some-cutting_place.ensures, c.told-domains) in
    let only : (w : ℕ) → HasEvent c.with.result w ↔ (w ≡ c.in-Some-split_first.source) = λ w. (
      λ h. elim ((c.with.ensures w).0 h) [ inl e ↦ absurd (c.new.ensures.empty w e) | inr is ↦ is ],
      λ is. (c.with.ensures w).1 (inr is),
    ) in (
      subst (λ (n : ℕ). c.args.cuts - 1 < n) c.decreases (omega (arith, c.if-cuts-eq0.false)),
      (
        c.requires.plan,
        (
          next_is_box box place c.in-Some-cutting_place.ensures room c.loop-source.left c.in-Some-split_first.others c.with.result
              c.in-Some-split_first.source c.in-Some-split_first.ensures c.loop-source.invariant.within only c.requires.is_box,
          c.loop-source.invariant.few,
        ),
      ),
    )

pub loop-source-smaller : goal.loop-source-smaller
loop-source-smaller t c =
    split_less c.loop-source.left c.in-Some-split_first.source c.in-Some-split_first.others c.in-Some-split_first.ensures

pub loop-source-preserved : goal.loop-source-preserved
loop-source-preserved t c =
    let p = c.args.problem.now in
    let box = box_with p c.args.domains.now in
    let place = c.in-Some-cutting_place.place in
    let sound = events_are p c.combination.result.now c.events-events.result.now c.events-events.ensures.value
    c.events-events.ensures.sound c.combination.ensures in
    let few : length (byte_reads (events_on p)) ≤ BYTE_READ_LIMIT = sound.few_reads in
    let room : place < length box.domains = omega (arith, few, c.in-Some-cutting_place.ensures, c.told-domains) in
    let only : (w : ℕ) → HasEvent c.with.result w ↔ (w ≡ c.in-Some-split_first.source) = λ w. (
      λ h. elim ((c.with.ensures w).0 h) [ inl e ↦ absurd (c.new.ensures.empty w e) | inr is ↦ is ],
      λ is. (c.with.ensures w).1 (inr is),
    ) in record {
      within = others_within box place c.in-Some-cutting_place.ensures room c.loop-source.left c.in-Some-split_first.others
          c.with.result c.in-Some-split_first.source c.in-Some-split_first.ensures c.loop-source.invariant.within only;
      covers = covers_more box place c.in-Some-cutting_place.ensures room c.loop-source.left c.in-Some-split_first.others c.with.result
          c.in-Some-split_first.source c.in-Some-split_first.ensures c.loop-source.invariant.within only c.args.cases.now.items
          c.loop-source.cases.items c.add_cases.new.cases.items c.in_ok-add_cases.field-0 c.if-not-branch.false
          c.loop-source.invariant.covers c.in_ok-add_cases.ensures.cases;
      few = c.in_ok-add_cases.ensures.few;
    }

pub returns-clause-cases : goal.returns-clause-cases
returns-clause-cases t c =
    let box = box_with c.args.problem.now c.args.domains.now in
    all_covered box c.in-Some-cutting_place.place c.in-Some-cutting_place.ensures c.loop-source.left c.in_default-split_first.ensures
    c.args.cases.now.items c.loop-source.cases.items c.loop-source.invariant.covers

pub returns-then-not-branch-clause-cases : goal.returns-then-not-branch-clause-cases
returns-then-not-branch-clause-cases t c =
    let p = c.args.problem.now in
    let box = box_with p c.args.domains.now in
    let place = c.in-Some-cutting_place.place in
    let sound = events_are p c.combination.result.now c.events-events.result.now c.events-events.ensures.value
    c.events-events.ensures.sound c.combination.ensures in
    let few : length (byte_reads (events_on p)) ≤ BYTE_READ_LIMIT = sound.few_reads in
    let room : place < length box.domains = omega (arith, few, c.in-Some-cutting_place.ensures, c.told-domains) in
    let only : (w : ℕ) → HasEvent c.with.result w ↔ (w ≡ c.in-Some-split_first.source) = λ w. (
      λ h. elim ((c.with.ensures w).0 h) [ inl e ↦ absurd (c.new.ensures.empty w e) | inr is ↦ is ],
      λ is. (c.with.ensures w).1 (inr is),
    ) in
    cases_more box place c.in-Some-cutting_place.ensures room c.loop-source.left c.in-Some-split_first.others c.with.result
    c.in-Some-split_first.source c.in-Some-split_first.ensures c.loop-source.invariant.within only c.args.cases.now.items
    c.loop-source.cases.items c.add_cases.new.cases.items c.in_ok-add_cases.field-0 c.loop-source.invariant.covers
    c.in_ok-add_cases.ensures.cases
