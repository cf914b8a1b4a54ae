-- Relations with one pair more.
use Rattle.std.proofs.Common.{ℕ, arith}
use Rattle.lit_rel.specs.Rows.{IsTransitive, WithPair}

-- with one more pair a transitive relation stays transitive
pub WithPair-transitive : (before : ℕ → ℕ → Type 0) (a d : ℕ) → IsTransitive before → IsTransitive (WithPair before a d)
WithPair-transitive before a d through x y z p q = grind (arith, through)

-- and it is the least that has them
pub WithPair-within : (before other : ℕ → ℕ → Type 0) (a d : ℕ) → IsTransitive other → ((x y : ℕ) → before x y → other x y) → other a d
    → (x y : ℕ) → WithPair before a d x y → other x y
WithPair-within before other a d through has pair x y h = grind (arith, through, has)
