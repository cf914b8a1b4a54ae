use Rattle.std.proofs.Common.{◌≡◌, ℕ, ◌<◌, Some}
use Rattle.std.specs.List.{slice_get}
use Rattle.lit_rel.specs.declared.between.Pair.{Pair}
use Rattle.lit_rel.specs.Rows.{rows_len, Holds}
use Rattle.lit_order.specs.Internal.Deciding.{IsOtherOf, IsUndecided}
use Rattle.lit_order.proofs.triple.undecided.Given as goal

abbrev pub invariant-loop-pair : goal.invariant-loop-pair
invariant-loop-pair l =
    (k : ℕ) (p : Pair) → k < l.pair-index → slice_get l.pair-items k ≡ Some p → (v : ℕ) → IsOtherOf (rows_len l.rows) p v → ¬ IsUndecided (Holds l.rows) p.source p.read v
