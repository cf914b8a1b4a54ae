use Rattle.std.proofs.Common.{◌≡◌, ℕ, List, Some, length, arith, ap, inl, inr, subst}
use Rattle.std.proofs.lemmas.Bool.{cases_lt}
use Rattle.lit_paths.specs.declared.event.Event.{Event}
use Rattle.lit_solve.specs.Box.{events_on}
use Rattle.lit_why.specs.Internal.Unmixing.{HasNoneFilled}
use Rattle.lit_why.proofs.UnmixingLemmas.{first_of_event, first_of_init, none_unmixed}
use Rattle.lit_why.proofs.unmixing.first_unmixed.Goals as goal

pub returns-in-Some : goal.returns-in-Some
returns-in-Some c =
    first_of_init c.args.problem.now c.args.goal (rw (c.events-events.ensures.value, c.combination.ensures) at c.events-events.ensures.sound)
    c.args.read c.args.sources.now c.in-Some.least.sources.items c.in-Some.least.order.items c.in-Some.ensures

pub returns-in-Some-least_filled : goal.returns-in-Some-least_filled
returns-in-Some-least_filled c =
    first_of_event c.args.problem.now c.args.goal (rw (c.events-events.ensures.value, c.combination.ensures) at c.events-events.ensures.sound)
    c.args.read c.args.sources.now c.in-Some-least_filled.least.sources.items c.in-Some-least_filled.least.order.items c.loop-event.event
    c.loop-event.invariant.no_init c.loop-event.invariant.no_lesser c.in-Some-least_filled.ensures

pub loop-event-preserved : goal.loop-event-preserved
loop-event-preserved c = record {
  no_init = c.loop-event.invariant.no_init;
  no_lesser = λ d less. elim (cases_lt d c.loop-event.event) [
    | inl earlier ↦ c.loop-event.invariant.no_lesser d earlier
    | inr last ↦
        subst (λ (e : ℕ). HasNoneFilled c.args.problem.now c.args.goal c.args.read (Some e) c.args.sources.now) (omega (arith, less, last))
        c.in_default-least_filled.ensures
  ];
}

pub returns : goal.returns
returns c =
    let same : length c.events-events.result.now ≡ length (events_on c.args.problem.now) =
    ap (λ (es : List Event). length es) (rw c.combination.ensures at c.events-events.ensures.value) in
    none_unmixed c.args.problem.now c.args.goal (rw (c.events-events.ensures.value, c.combination.ensures) at c.events-events.ensures.sound)
    c.args.read c.args.sources.now c.loop-event.invariant.no_init
    (λ e known. c.loop-event.invariant.no_lesser e (omega (arith, known, same, c.loop-event-test.false)))
