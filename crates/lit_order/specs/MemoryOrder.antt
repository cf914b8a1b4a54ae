-- memory-order (ECMA-262, 2024, 29.7.4), as a list of all events, and the least of several (this project's own).
use Rattle.std.specs.Prelude.{◌≡◌, ◌≢◌, ◌↔◌, ℕ, ◌<◌, List, length, Some, slice_get}
use Rattle.std.specs.Cmp.Lexicographic.{slice_cmp}
use Rattle.std.specs.Ordering.{nat_cmp}
use Rattle.std.specs.declared.cmp.Ordering.TheVariants.{Less}
use Rattle.lit_paths.specs.declared.event.Event.{Event}
use Rattle.lit_rel.specs.HappensBefore.{HappensBefore}
use Rattle.lit_rel.specs.Forbidden.{IsForbidden}

-- a stands at an earlier place than d
pub record StandsBefore (order : List ℕ) (a d : ℕ) : Type 0 where
  pub first : ℕ
  pub second : ℕ
  pub earlier : first < second
  pub first_is : slice_get order first ≡ Some a
  pub second_is : slice_get order second ≡ Some d

-- each number below n stands in the list, and stands there once
pub record IsListOfAll (n : ℕ) (order : List ℕ) : Type 0 where
  pub all : (e : ℕ) → e < n → (k : ℕ) × (slice_get order k ≡ Some e)
  pub only : (k e : ℕ) → slice_get order k ≡ Some e → e < n
  pub once : (k l e : ℕ) → slice_get order k ≡ Some e → slice_get order l ≡ Some e → k ≡ l

-- A list of n events that respects each pair of a relation, and in which no v of a triple (w, r, v) stands between w and r.
pub record IsOrderOf (n : ℕ) (before : ℕ → ℕ → Type 0) (forbidden : ℕ → ℕ → ℕ → Type 0) (order : List ℕ) : Type 0 where
  pub complete : IsListOfAll n order
  pub keeps : (a d : ℕ) → before a d → StandsBefore order a d
  pub avoids : (w r v : ℕ) → forbidden w r v → StandsBefore order w v → StandsBefore order v r → ⊥

-- some list is such an order
abbrev pub HasOrder : ℕ → (ℕ → ℕ → Type 0) → (ℕ → ℕ → ℕ → Type 0) → Type 0
HasOrder n before forbidden = (order : List ℕ) × IsOrderOf n before forbidden order

-- the orders of one relation are those of another, with the same triples
abbrev pub HaveSameOrders : ℕ → (ℕ → ℕ → Type 0) → (ℕ → ℕ → Type 0) → (ℕ → ℕ → ℕ → Type 0) → Type 0
HaveSameOrders n before other forbidden = (order : List ℕ) → IsOrderOf n before forbidden order ↔ IsOrderOf n other forbidden order

-- such an order, of which no other is less as a list
pub record IsLeastOrderOf (n : ℕ) (before : ℕ → ℕ → Type 0) (forbidden : ℕ → ℕ → ℕ → Type 0) (order : List ℕ) : Type 0 where
  pub is_order : IsOrderOf n before forbidden order
  pub least : (other : List ℕ) → IsOrderOf n before forbidden other → slice_cmp nat_cmp other order ≢ Less

-- a memory-order of the candidate execution with these events and sources
abbrev pub IsMemoryOrder : List Event → List ℕ → List ℕ → Type 0
IsMemoryOrder events sources order = IsOrderOf (length events) (HappensBefore events sources) (IsForbidden events sources) order

-- the least of these
abbrev pub IsLeastMemoryOrder : List Event → List ℕ → List ℕ → Type 0
IsLeastMemoryOrder events sources order = IsLeastOrderOf (length events) (HappensBefore events sources) (IsForbidden events sources) order
