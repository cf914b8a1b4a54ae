-- Order-preserving packing of lists into numbers, as far as their first values decide.
use Rattle.std.specs.Prelude.{◌≡◌, ℕ, zero, suc, ◌+◌, ◌*◌, ◌^◌, nat_lt, if◌then◌else◌, List, [], ◌∷◌}

-- the first values, so many at the most, as digits below the top; the first that is no less is the top, and the digits
-- behind it are 0, as they are where there is no value
abbrev pub packed : ℕ → ℕ → List ℕ → ℕ
packed top zero xs = 0
packed top (suc n) [] = 0
packed top (suc n) (x ∷ xs) = if nat_lt x top then x * (top + 1) ^ n + packed top n xs else top * (top + 1) ^ n

-- an outcome packed by small digits, and by large ones
pub record IsPacked (small large : ℕ) (outcome : List ℕ) : Type 0 where
  pub by_small : small ≡ packed 127 9 outcome
  pub by_large : large ≡ packed 2147483647 4 outcome
