-- Outcomes with their examples (this project's own).
use Rattle.std.specs.Prelude.{◌≡◌, ℕ, List, Some, slice_get}

-- an outcome with its example: the number of a choice, and a memory-order of it
pub record Entry : Type 0 where
  pub outcome : List ℕ
  pub choice : ℕ
  pub order : List ℕ

-- this is one of the entries
abbrev pub HasEntry : List Entry → Entry → Type 0
HasEntry entries entry = (i : ℕ) × (slice_get entries i ≡ Some entry)

-- one of the entries has this outcome
pub record HasOutcome (entries : List Entry) (outcome : List ℕ) : Type 0 where
  pub place : ℕ
  pub entry : Entry
  pub is : slice_get entries place ≡ Some entry
  pub same : entry.outcome ≡ outcome
