-- Precedence constraints between events, added one after another, as a value of the program's type `Forced` has them
-- (this project's own).
use Rattle.std.specs.Prelude.{◌≡◌, ◌⊎◌, ◌↔◌, ℕ}
use Rattle.lit_rel.specs.Between.{Forbids}
use Rattle.lit_rel.specs.Rows.{Holds, rows_len}
use Rattle.lit_order.specs.declared.forced.Forced.{Forced}

-- the number of events
abbrev pub forced_len : Forced → ℕ
forced_len forced = rows_len forced.rows

-- a chain of the given pairs leads from a to d
abbrev pub IsBefore : Forced → ℕ → ℕ → Type 0
IsBefore forced = Holds forced.rows

-- v may not stand after w and before r
abbrev pub Refuses : Forced → ℕ → ℕ → ℕ → Type 0
Refuses forced = Forbids forced.between.now

-- the value is on n events, and has these precedences and these forbidden triples
pub record IsMadeOf (n : ℕ) (chains : ℕ → ℕ → Type 0) (forbidden : ℕ → ℕ → ℕ → Type 0) (forced : Forced) : Type 0 where
  pub len : forced_len forced ≡ n
  pub pairs : (a d : ℕ) → IsBefore forced a d ↔ chains a d
  pub triples : (w r v : ℕ) → Refuses forced w r v ↔ forbidden w r v

-- a relation with one more pair
abbrev pub AndPair : (ℕ → ℕ → Type 0) → ℕ → ℕ → ℕ → ℕ → Type 0
AndPair before a d x y = before x y ⊎ ((x ≡ a) × (y ≡ d))
