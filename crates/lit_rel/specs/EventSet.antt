-- Sets of events (this project's own).
use Rattle.std.specs.Prelude.{◌≡◌, ◌≢◌, ◌↔◌, ℕ, ◌<◌, List, slice_index_or}
use Rattle.std.specs.Int.{bit_at}
use Rattle.lit_rel.specs.declared.event_set.EventSet.{EventSet}

-- the event with this number is in the set
abbrev pub HasEvent : EventSet → ℕ → Type 0
HasEvent set e = bit_at set.bits e ≡ 1

-- the set of no event
abbrev pub no_events : EventSet
no_events = record { bits = 0 }

-- one set for each event below n, all of events below n
pub record AreWithin (n : ℕ) (sets : List EventSet) : Type 0 where
  pub first_known : (a d : ℕ) → HasEvent (slice_index_or sets a no_events) d → a < n
  pub second_known : (a d : ℕ) → HasEvent (slice_index_or sets a no_events) d → d < n

-- the least event of a set, and the set of the others
pub record IsSplit (set : EventSet) (event : ℕ) (others : EventSet) : Type 0 where
  pub there : HasEvent set event
  pub least : (e : ℕ) → e < event → ¬ HasEvent set e
  pub rest : (e : ℕ) → HasEvent others e ↔ (HasEvent set e × e ≢ event)
