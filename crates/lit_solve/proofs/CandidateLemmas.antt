-- Sets of candidates.
use Rattle.lit_solve.proofs.Words.{◌+◌, ◌<◌, arith, cases_eq, cases_lt, Event, EventSet, get_or-set_other, get_or-set_same}
use Rattle.lit_solve.proofs.Words.{get_or_from_slice_get, HasEvent, IsCandidate, length, List, ListsCandidates, no_events, same_Some}
use Rattle.lit_solve.proofs.Words.{slice_get_within, slice_index_or, slice_set, Some, ℕ, ◌↔◌, ◌≡◌, ◌≤◌, ◌⊎◌}
use Rattle.std.proofs.Common.{slice_get}

-- the set has the first members of a list
abbrev pub HasFirst : EventSet → List ℕ → ℕ → Type 0
HasFirst set list count = (w : ℕ) → HasEvent set w ↔ ((k : ℕ) × (k < count) × (slice_get list k ≡ Some w))

pub has_more : (old new : EventSet) (list : List ℕ) (count v : ℕ) → HasFirst old list count → slice_get list count ≡ Some v
    → ((w : ℕ) → HasEvent new w ↔ (HasEvent old w ⊎ (w ≡ v))) → HasFirst new list (count + 1)
has_more old new list count v has here more w = grind (arith, cases_lt, same_Some)

pub has_all : (set : EventSet) (list : List ℕ) (count : ℕ) (events : List Event) (r b : ℕ) → HasFirst set list count → length list ≤ count
    → ListsCandidates events r b list
    → (w : ℕ) → HasEvent set w ↔ IsCandidate events r b w
has_all set list count events r b has all lists w = (
  λ is. let at = (has w).0 is in lists.only at.0 w at.2,
  λ is. let at = lists.all w is in (has w).1 (at.0, omega (arith, slice_get_within list at.0 w at.1, all), at.1),
)

-- sets of the first byte reads, and that of the next one
pub sets_more : (reads : List (ℕ × ℕ)) (P : ℕ × ℕ → ℕ → Type 0) (sets : List EventSet) (place : ℕ) (set : EventSet) → place < length sets
    → ((k r b w : ℕ) → k < place → slice_get reads k ≡ Some (r, b) → HasEvent (slice_index_or sets k no_events) w ↔ P (r, b) w)
    → ((w : ℕ) → HasEvent set w ↔ P (slice_index_or reads place (0, 0)) w)
    → (k r b w : ℕ) → k < place + 1 → slice_get reads k ≡ Some (r, b) → HasEvent (slice_index_or (slice_set sets place set) k no_events) w ↔ P (r, b) w
sets_more reads P sets place set room before here k r b w below at =
    grind (arith, cases_eq, get_or-set_other, get_or-set_same, get_or_from_slice_get)
