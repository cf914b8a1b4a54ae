use Rattle.std.proofs.Common.{◌≡◌, ◌∙◌, ap, List, ℕ, refl, sym, subst}
use Rattle.lit_syntax.specs.Syntax.{Litmus}
use Rattle.lit_paths.specs.declared.event.Event.{Event}
use Rattle.lit_paths.specs.Outcome.{names_of}
use Rattle.lit_paths.specs.Plan.{IsOfCombination, events_in}
use Rattle.lit_report.specs.CachedLines.{HoldsLines}
use Rattle.lit_report.specs.ChoiceSources.{HoldsSources}
use Rattle.lit_report.specs.EntryCache.{HoldsOrder, HoldsOutcome}
use Rattle.lit_valid.specs.Entry.{Entry}
use Rattle.lit_report.specs.ChoiceEvents.{choice_at, choice_events}
use Rattle.lit_report.proofs.ChosenEvents.{executed, entered_events, entered_owned, entered_choice, entered_is, entered_sources, of_plan}
use Rattle.lit_report.proofs.EntryFacts.{length-outcome, order_known, sources_known}
use Rattle.lit_report.proofs.Lines.{entry_is}
use Rattle.lit_report.proofs.Putting.{HasPut-then, HasPut-is}
use Rattle.lit_report.proofs.entry_cache.put_entry.Goals as goal

pub put_outcome-requires-clause-one_each : goal.put_outcome-requires-clause-one_each
put_outcome-requires-clause-one_each g c = rw c.names.ensures.value (length-outcome c.args.plan.now c.args.choice c.args.outcome.now c.requires.gives)

pub put_lines-requires-clause-owned : goal.put_lines-requires-clause-owned
put_lines-requires-clause-owned g c =
    let t = c.args.plan.now in
    let entered = c.enter_for.new.entered in
    rw c.test-test.ensures.value (entered_owned t t c.args.choice entered.1 entered c.events-events.result.now refl (entered_is t entered c.enter_for.ensures.plan) c.events-events.ensures.value (of_plan t c.args.choice entered c.enter_for.ensures.plan c.find.ensures.of) (c.combinations_are_listed.ensures t))

pub put_lines-requires-clause-known : goal.put_lines-requires-clause-known
put_lines-requires-clause-known g c = rw (c.as_slice.ensures.value, c.events-events.ensures.value) (sources_known _ _ c.find.ensures.sourced)

pub put_lines-requires-clause-cached : goal.put_lines-requires-clause-cached
put_lines-requires-clause-cached g c =
    let t = c.args.plan.now in
    let n = c.args.choice in
    let entered = c.enter_for.new.entered in
    let cached = c.enter_for.new.cache.lines in
    let of : IsOfCombination t n entered.1 = of_plan t n entered c.enter_for.ensures.plan c.find.ensures.of in
    subst (λ (u : Litmus). HoldsLines u c.events-events.result.now cached) (sym c.test-test.ensures.value)
    (subst (λ (es : List Event). HoldsLines t es cached) (sym (entered_events t t n entered.1 entered c.events-events.result.now refl (entered_is t entered c.enter_for.ensures.plan) c.events-events.ensures.value of)) c.enter_for.ensures.cache.lines)

pub put_cached_order-requires-clause-owned : goal.put_cached_order-requires-clause-owned
put_cached_order-requires-clause-owned g c =
    let t = c.args.plan.now in
    let entered = c.enter_for.new.entered in
    rw c.test-test.ensures.value (entered_owned t t c.args.choice entered.1 entered c.events-events.result.now refl (entered_is t entered c.enter_for.ensures.plan) c.events-events.ensures.value (of_plan t c.args.choice entered c.enter_for.ensures.plan c.find.ensures.of) (c.combinations_are_listed.ensures t))

pub put_cached_order-requires-clause-known : goal.put_cached_order-requires-clause-known
put_cached_order-requires-clause-known g c =
    let t = c.args.plan.now in
    let n = c.args.choice in
    let entered = c.enter_for.new.entered in
    let of : IsOfCombination t n entered.1 = of_plan t n entered c.enter_for.ensures.plan c.find.ensures.of in
    rw (entered_events t t n entered.1 entered c.events-events.result.now refl (entered_is t entered c.enter_for.ensures.plan) c.events-events.ensures.value of)
    (order_known t n c.args.outcome.now c.args.order.now _ c.requires.gives c.requires.least_order (executed t n entered.1 of))

pub put_cached_order-requires-clause-cached : goal.put_cached_order-requires-clause-cached
put_cached_order-requires-clause-cached g c =
    let t = c.args.plan.now in
    let n = c.args.choice in
    let entered = c.enter_for.new.entered in
    let cached = c.enter_for.new.cache.order in
    let of : IsOfCombination t n entered.1 = of_plan t n entered c.enter_for.ensures.plan c.find.ensures.of in
    subst (λ (u : Litmus). HoldsOrder u c.events-events.result.now cached) (sym c.test-test.ensures.value)
    (subst (λ (es : List Event). HoldsOrder t es cached) (sym (entered_events t t n entered.1 entered c.events-events.result.now refl (entered_is t entered c.enter_for.ensures.plan) c.events-events.ensures.value of)) c.enter_for.ensures.cache.order)

pub returns-clause-text : goal.returns-clause-text
returns-clause-text g c =
    let t = c.args.plan.now in
    let n = c.args.choice in
    let choice = choice_at t n in
    let entered = c.enter_for.new.entered in
    let of : IsOfCombination t n entered.1 = of_plan t n entered c.enter_for.ensures.plan c.find.ensures.of in
    let entry : Entry = record { outcome = c.args.outcome.now; choice = n; order = c.args.order.now } in
    let events : c.events-events.result.now ≡ choice_events t choice = entered_choice t t n entered.1 entered c.events-events.result.now refl (entered_is t entered c.enter_for.ensures.plan) c.events-events.ensures.value of (c.combinations_are_listed.ensures t) in
    let sources : c.as_slice.result.now ≡ choice.sources =
    entered_sources t t n entered.1 entered c.events-events.result.now refl (entered_is t entered c.enter_for.ensures.plan) c.events-events.ensures.value of c.find.new.self.sources.items c.as_slice.result.now c.find.ensures.listed c.as_slice.ensures.value in
    HasPut-is _ _ _ _ (HasPut-then _ _ _ _ _ (HasPut-then _ _ _ _ _ c.put_outcome.ensures.text c.put_lines.ensures.text) c.put_cached_order.ensures.text)
    (entry_is t c.test-test.result.now c.names.result.now c.events-events.result.now c.as_slice.result.now c.args.order.now entry c.test-test.ensures.value c.names.ensures.value events sources refl)

pub returns-clause-cache : goal.returns-clause-cache
returns-clause-cache g c =
    let entered = c.enter_for.new.entered in
    let events : c.events-events.result.now ≡ events_in c.args.plan.now entered.1 =
    c.events-events.ensures.value ∙ ap (λ (u : Litmus). events_in u entered.1) c.enter_for.ensures.plan in
    record {
      sources = subst (λ (u : Litmus). HoldsSources u entered.1 c.find.new.self) c.enter_for.ensures.plan c.find.ensures.holds;
      outcome = subst (λ (u : Litmus). HoldsOutcome u (names_of c.args.plan.now) c.put_outcome.new.cached) c.test-test.ensures.value
          (subst (λ (names : List (ℕ × ℕ)). HoldsOutcome c.test-test.result.now names c.put_outcome.new.cached) c.names.ensures.value c.put_outcome.ensures.cached);
      lines = subst (λ (u : Litmus). HoldsLines u (events_in c.args.plan.now entered.1) c.put_lines.new.cached) c.test-test.ensures.value
          (subst (λ (es : List Event). HoldsLines c.test-test.result.now es c.put_lines.new.cached) events c.put_lines.ensures.cached);
      order = subst (λ (u : Litmus). HoldsOrder u (events_in c.args.plan.now entered.1) c.put_cached_order.new.cached) c.test-test.ensures.value
          (subst (λ (es : List Event). HoldsOrder c.test-test.result.now es c.put_cached_order.new.cached) events c.put_cached_order.ensures.cached);
    }
