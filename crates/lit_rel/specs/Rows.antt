-- Relations on events as rows of sets (this project's own).
use Rattle.std.specs.Prelude.{◌≡◌, ◌⊎◌, ℕ, ◌<◌, slice_index_or}
use Rattle.lit_rel.specs.declared.rows.Rows.{Rows}
use Rattle.lit_rel.specs.EventSet.{HasEvent, no_events}

-- the number of events that the relation is on
abbrev pub rows_len : Rows → ℕ
rows_len rows = rows.len

-- the relation holds of a and d, numbers below its length
pub record Holds (rows : Rows) (a d : ℕ) : Type 0 where
  pub first_known : a < rows_len rows
  pub second_known : d < rows_len rows
  pub marked : HasEvent (slice_index_or rows.sets a no_events) d

-- the relation is transitive
abbrev pub IsTransitive : (ℕ → ℕ → Type 0) → Type 0
IsTransitive before = (x y z : ℕ) → before x y → before y z → before x z

-- the second relation is within each transitive relation that has the first one and the pair
abbrev pub IsLeastWith : (ℕ → ℕ → Type 0) → ℕ → ℕ → (ℕ → ℕ → Type 0) → Type 0
IsLeastWith before a d closed =
    (other : Rows) → IsTransitive (Holds other) → ((x y : ℕ) → before x y → Holds other x y) → Holds other a d → (x y : ℕ) → closed x y
    → Holds other x y

-- The relation with one more pair, closed: what is before a, and a itself, is now before d, and before what is after d.
-- Of a transitive relation this is the least transitive one that has it and the pair.
abbrev pub WithPair : (ℕ → ℕ → Type 0) → ℕ → ℕ → ℕ → ℕ → Type 0
WithPair before a d x y = before x y ⊎ ((before x a ⊎ (x ≡ a)) × (before d y ⊎ (y ≡ d)))
