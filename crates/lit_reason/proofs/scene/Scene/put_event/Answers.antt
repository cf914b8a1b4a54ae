use Rattle.std.proofs.Common.{◌≡◌, ℕ, ◌++◌, ◌∙◌, List, Ok, Err, OnOk, ap}
use Rattle.std.specs.declared.result.Result.{Result}
use Rattle.lit_syntax.specs.Syntax.{Litmus}
use Rattle.lit_paths.specs.declared.event.Event.{Event}
use Rattle.lit_paths.specs.Event.{event_at, no_event}
use Rattle.lit_paths.specs.Plan.{events_in}
use Rattle.lit_report.specs.EntryText.{event_name as name_of}
use Rattle.lit_rel.specs.Part.{part_events}
use Rattle.lit_reason.proofs.scene.Scene.put_event.Goals as goal

-- what was put is said in other words
put_as : {X E : Type 0} (r : Result X E) (Known : Type 0) (old new put name : List ℕ) → OnOk r (new ≡ old ++ put) → put ≡ name → OnOk r (Known → new ≡ old ++ name)
put_as (Ok x) Known old new put name is same = λ known. is ∙ ap (λ (bytes : List ℕ). old ++ bytes) same
put_as (Err e) Known old new put name is same = tt

pub returns-in-Some : goal.returns-in-Some
returns-in-Some c =
    let part = c.args.self.now.part in
    let of : c.test.result.now ≡ part.test = c.test.ensures ∙ ap (λ (p : Litmus × ℕ). p.0) c.combination-combination.ensures in
    let event : c.in-Some.event.now ≡ event_at (part_events part) c.args.event =
    c.in-Some.ensures.lookup.3.1 no_event
    ∙ ap (λ (es : List Event). event_at es c.from.result) c.events.ensures.value
    ∙ ap (λ (p : Litmus × ℕ). event_at (events_in p.0 p.1) c.from.result) c.combination-combination.ensures
    ∙ ap (event_at (part_events part)) c.from.ensures in
    put_as c.write.result _ _ _ _ _ c.write.ensures.bytes (ap (λ (t : Litmus). name_of t c.in-Some.event.now) of ∙ ap (name_of part.test) event)
