-- What writes is an event.
use Rattle.std.proofs.Common.{◌≡◌, ℕ, ◌<◌, List, length, sym, ap, ◌∙◌, inl, inr}
use Rattle.std.proofs.lemmas.Bool.{cases_lt, false≢true}
use Rattle.std.proofs.lemmas.List.{get_or_past}
use Rattle.std.specs.Bool.{IsTrue}
use Rattle.lit_paths.specs.declared.event.Event.{Event}
use Rattle.lit_paths.specs.Event.{does_write, event_at, no_event}

pub write_known : (events : List Event) (v : ℕ) → IsTrue (does_write (event_at events v).kind) → v < length events
write_known events v writes =
    elim (cases_lt v (length events)) [
      | inl within ↦ within
      | inr past ↦
          let none : event_at events v ≡ no_event = get_or_past events v no_event past in
          absurd (false≢true (sym (ap (λ (e : Event). does_write e.kind) none) ∙ writes))
    ]
