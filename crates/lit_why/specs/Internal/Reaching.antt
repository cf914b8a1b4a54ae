-- Steps of happens-before by a relation that stands for synchronizes-with, and the events from which so many steps lead to another.
use Rattle.std.specs.Prelude.{◌≡◌, ◌⊎◌, ◌↔◌, ℕ, ◌<◌, List, length, slice_index_or}
use Rattle.lit_paths.specs.declared.event.Event.{Event}
use Rattle.lit_rel.specs.AgentOrder.{IsAgentOrdered}
use Rattle.lit_rel.specs.declared.event_set.EventSet.{EventSet}
use Rattle.lit_rel.specs.EventSet.{HasEvent, no_events}
use Rattle.lit_rel.specs.HappensBefore.{Chain, IsMadeBefore}

-- one step
abbrev pub IsStep : List Event → (ℕ → ℕ → Type 0) → ℕ → ℕ → Type 0
IsStep events synchronizes e d = IsAgentOrdered events e d ⊎ synchronizes e d ⊎ IsMadeBefore events e d

-- a chain with k events in the middle, of one step more, leads from e to d
pub record IsReachedBy (step : ℕ → ℕ → Type 0) (d k e : ℕ) : Type 0 where
  pub middles : List ℕ
  pub count : length middles ≡ k
  pub chain : Chain step e middles d

-- at each place k of the list, the set of the events from which a chain with k events in the middle leads to d
abbrev pub AreLevels : (ℕ → ℕ → Type 0) → ℕ → List EventSet → Type 0
AreLevels step d levels =
    (k : ℕ) → k < length levels → (e : ℕ) → HasEvent (slice_index_or levels k no_events) e ↔ IsReachedBy step d k e

-- the levels of fewer steps than lead from e to d, of which none has e
pub record AreLevelsBelow (step : ℕ → ℕ → Type 0) (e d : ℕ) (levels : List EventSet) : Type 0 where
  pub are_levels : AreLevels step d levels
  pub below : (k : ℕ) → k < length levels → ¬ IsReachedBy step d k e
  pub reached : IsReachedBy step d (length levels) e

-- no chain leads from e to d
abbrev pub IsUnreached : (ℕ → ℕ → Type 0) → ℕ → ℕ → Type 0
IsUnreached step e d = (middles : List ℕ) → ¬ Chain step e middles d
