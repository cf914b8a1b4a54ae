use Rattle.std.proofs.Common.{◌≡◌, List, ℕ, ap, refl, ◌∙◌}
use Rattle.lit_syntax.specs.Syntax.{Litmus}
use Rattle.lit_paths.specs.declared.event.Event.{Event}
use Rattle.lit_report.specs.ChoiceEvents.{choice_at, choice_events}
use Rattle.lit_report.specs.EntryText.{from_lines}
use Rattle.lit_report.proofs.ChosenEvents.{entered_choice, entered_owned, entered_sources}
use Rattle.lit_report.proofs.EntryFacts.{sources_known}
use Rattle.lit_report.proofs.Putting.{HasPut-is}
use Rattle.lit_report.proofs.choice_lines.put_choice_lines.Goals as goal

pub put_lines-requires-clause-owned : goal.put_lines-requires-clause-owned
put_lines-requires-clause-owned g c =
    let t = c.args.plan.now in
    let entered = c.enter-combination.result in
    rw c.test.ensures.value (entered_owned t t c.args.choice c.combination.result entered c.events.result.now refl c.enter-combination.ensures c.events.ensures.value c.combination.ensures.value (c.combinations_are_listed.ensures t))

pub put_lines-requires-clause-known : goal.put_lines-requires-clause-known
put_lines-requires-clause-known g c = rw (c.as_slice.ensures.value, c.events.ensures.value) (sources_known _ _ c.sources-sources.ensures.sourced)

pub returns : goal.returns
returns g c =
    let t = c.args.plan.now in
    let n = c.args.choice in
    let choice = choice_at t n in
    let entered = c.enter-combination.result in
    let of = c.combination.ensures.value in
    let events : c.events.result.now ≡ choice_events t choice =
    entered_choice t t n c.combination.result entered c.events.result.now refl c.enter-combination.ensures c.events.ensures.value of (c.combinations_are_listed.ensures t) in
    let sources : c.as_slice.result.now ≡ choice.sources =
    entered_sources t t n c.combination.result entered c.events.result.now refl c.enter-combination.ensures c.events.ensures.value of c.sources-sources.result.items c.as_slice.result.now c.sources-sources.ensures.listed c.as_slice.ensures.value in
    HasPut-is _ _ _ _ c.put_lines.ensures.text
    (ap (λ (test : Litmus). from_lines test c.events.result.now c.as_slice.result.now) c.test.ensures.value
    ∙ ap (λ (es : List Event). from_lines t es c.as_slice.result.now) events ∙ ap (from_lines t (choice_events t choice)) sources)
