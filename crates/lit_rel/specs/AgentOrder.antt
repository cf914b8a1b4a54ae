-- agent-order (ECMA-262, 2024, 29.6.1).
use Rattle.std.specs.Prelude.{◌≡◌, ℕ, ◌<◌, List, length}
use Rattle.lit_paths.specs.declared.event.Event.{Event}
use Rattle.lit_paths.specs.Event.{event_at}

-- Both are in one event list, and e stands first there. The events that make the block are one list.
pub record IsAgentOrdered (events : List Event) (e d : ℕ) : Type 0 where
  pub first_known : e < length events
  pub second_known : d < length events
  pub one_list : (event_at events e).owner ≡ (event_at events d).owner
  pub before : (event_at events e).place < (event_at events d).place
