-- Prefixes of memory-orders.
use Rattle.std.specs.Prelude.{◌≡◌, ◌≢◌, ◌⊎◌, ◌↔◌, ℕ, ◌<◌, List, ◌++◌, Some, slice_get}
use Rattle.std.specs.Cmp.Lexicographic.{slice_cmp}
use Rattle.std.specs.Ordering.{nat_cmp}
use Rattle.std.specs.declared.cmp.Ordering.TheVariants.{Less}
use Rattle.lit_order.specs.MemoryOrder.{StandsBefore, IsOrderOf}

-- the event has a place in the list
pub record Stands (order : List ℕ) (e : ℕ) : Type 0 where
  pub place : ℕ
  pub at_place : slice_get order place ≡ Some e

-- A prefix of an order: events below n, each once. What the relation puts before an event of the list stands before it
-- there. Where v of a triple (w, r, v) stands after w, r is v or stands before v.
pub record IsBeginning (n : ℕ) (before : ℕ → ℕ → Type 0) (forbidden : ℕ → ℕ → ℕ → Type 0) (order : List ℕ) : Type 0 where
  pub only : (k e : ℕ) → slice_get order k ≡ Some e → e < n
  pub once : (k l e : ℕ) → slice_get order k ≡ Some e → slice_get order l ≡ Some e → k ≡ l
  pub closed : (a d k : ℕ) → before a d → slice_get order k ≡ Some d → StandsBefore order a d
  pub whole : (w r v : ℕ) → forbidden w r v → StandsBefore order w v → (r ≡ v) ⊎ StandsBefore order r v

-- a prefix of an order, with exactly these events
pub record IsPlaced (n : ℕ) (before : ℕ → ℕ → Type 0) (forbidden : ℕ → ℕ → ℕ → Type 0) (placed : ℕ → Type 0) (order : List ℕ)
    : Type 0 where
  pub begins : IsBeginning n before forbidden order
  pub events : (e : ℕ) → placed e ↔ Stands order e

-- The event can stand next after the placed ones: it is not placed, every event that comes before it is, and of each
-- triple (w, r, v) with the event as v and with w placed, r is placed too, or is v itself.
pub record CanStandNext (before : ℕ → ℕ → Type 0) (forbidden : ℕ → ℕ → ℕ → Type 0) (placed : ℕ → Type 0) (event : ℕ) : Type 0 where
  pub new : ¬ placed event
  pub follows : (a : ℕ) → before a event → placed a
  pub whole : (w r : ℕ) → forbidden w r event → placed w → (r ≡ event) ⊎ placed r

-- the least event below n that can stand next after the placed ones
pub record IsNext (n : ℕ) (before : ℕ → ℕ → Type 0) (forbidden : ℕ → ℕ → ℕ → Type 0) (placed : ℕ → Type 0)
    (event : ℕ) : Type 0 where
  pub known : event < n
  pub can : CanStandNext before forbidden placed event
  pub least : (e : ℕ) → e < event → ¬ CanStandNext before forbidden placed e

-- no order has this prefix
abbrev pub HasNoOrder : ℕ → (ℕ → ℕ → Type 0) → (ℕ → ℕ → ℕ → Type 0) → List ℕ → Type 0
HasNoOrder n before forbidden start = (rest : List ℕ) → ¬ IsOrderOf n before forbidden (start ++ rest)

-- an order with this prefix, such that no other order with the prefix is less
pub record IsLeastFrom (n : ℕ) (before : ℕ → ℕ → Type 0) (forbidden : ℕ → ℕ → ℕ → Type 0) (start order : List ℕ) : Type 0 where
  pub is_order : IsOrderOf n before forbidden order
  pub rest : List ℕ
  pub begins : order ≡ start ++ rest
  pub least : (other : List ℕ) → IsOrderOf n before forbidden (start ++ other) → slice_cmp nat_cmp (start ++ other) order ≢ Less
