-- The converse of a relation (this project's own).
use Rattle.std.specs.Prelude.{◌≡◌, ◌↔◌, ℕ}
use Rattle.lit_rel.specs.declared.rows.Rows.{Rows}
use Rattle.lit_rel.specs.Rows.{Holds, rows_len}

-- each is the converse of the other, on the same events
pub record IsConverse (rows converse : Rows) : Type 0 where
  pub len : rows_len converse ≡ rows_len rows
  pub pairs : (a d : ℕ) → Holds converse d a ↔ Holds rows a d
