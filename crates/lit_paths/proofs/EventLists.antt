-- The events that make a block, one more at a time.
use Rattle.std.proofs.Common.{◌≡◌, ℕ, ◌+◌, ◌<◌, ◌≤◌, List, [], ◌∷◌, ◌++◌, length, arith, sym, ap, ◌∙◌}
use Rattle.std.proofs.lemmas.List.FromFn.{length-map-range_with_len, map-range_with_len_more}
use Rattle.lit_paths.specs.declared.event.Event.{Event}
use Rattle.lit_paths.specs.Event.{init_event, init_events}

pub length-init_events : (n : ℕ) → length (init_events n) ≡ n
length-init_events n = length-map-range_with_len init_event 0 n

pub init_events_more : (n : ℕ) → init_events (n + 1) ≡ init_events n ++ init_event n ∷ []
init_events_more n = map-range_with_len_more init_event 0 n n (omega arith)

pub init_events_room : (n bytes limit : ℕ) (made : List Event) → made ≡ init_events n → n < bytes → bytes ≤ limit → length made < limit
init_events_room n bytes limit made is inside few = omega (arith, ap length is, length-init_events n)

pub init_events_step : (n : ℕ) (made more : List Event) → made ≡ init_events n → more ≡ made ++ init_event n ∷ [] → more ≡ init_events (n + 1)
init_events_step n made more is pushed = pushed ∙ ap (λ es. es ++ init_event n ∷ []) is ∙ sym (init_events_more n)
