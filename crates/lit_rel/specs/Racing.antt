-- Two events that are in a data race where both write a byte or one reads from the other (this project's own).
use Rattle.std.specs.Prelude.{◌≢◌, ℕ, ◌<◌, List, length}
use Rattle.lit_paths.specs.declared.event.Event.{Event}
use Rattle.lit_paths.specs.Event.{event_at}
use Rattle.lit_rel.specs.DataRace.{AreUnguarded, WriteOneByte}

-- two events, neither before the other, of which one is not sequentially consistent or whose ranges overlap
pub record AreApart (events : List Event) (before : ℕ → ℕ → Type 0) (e d : ℕ) : Type 0 where
  pub first_known : e < length events
  pub second_known : d < length events
  pub distinct : e ≢ d
  pub not_before : ¬ before e d
  pub not_after : ¬ before d e
  pub unguarded : AreUnguarded (event_at events e) (event_at events d)

-- both write a byte, by their numbers
abbrev pub WritesWith : List Event → ℕ → ℕ → Type 0
WritesWith events e d = WriteOneByte (event_at events e) (event_at events d)

-- two such events are one of these pairs
pub record HasApartPair (events : List Event) (before pairs : ℕ → ℕ → Type 0) : Type 0 where
  pub first : ℕ
  pub second : ℕ
  pub apart : AreApart events before first second
  pub is_pair : pairs first second
