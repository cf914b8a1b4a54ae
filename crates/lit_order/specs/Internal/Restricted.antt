-- Relations whose orders are those orders of another relation that have one prefix.
use Rattle.std.specs.Prelude.{◌≡◌, ℕ, List, ◌++◌}
use Rattle.lit_order.specs.MemoryOrder.{IsOrderOf}

-- the orders of the restriction are those of the given relation that begin with `start`
pub record IsRestricted (n : ℕ) (before : ℕ → ℕ → Type 0) (forbidden : ℕ → ℕ → ℕ → Type 0) (restriction : ℕ → ℕ → Type 0)
    (start : List ℕ) : Type 0 where
  pub only : (order : List ℕ) → IsOrderOf n restriction forbidden order → IsOrderOf n before forbidden order
  pub begins : (order : List ℕ) → IsOrderOf n restriction forbidden order → (rest : List ℕ) × (order ≡ start ++ rest)
  pub all : (rest : List ℕ) → IsOrderOf n before forbidden (start ++ rest) → IsOrderOf n restriction forbidden (start ++ rest)
