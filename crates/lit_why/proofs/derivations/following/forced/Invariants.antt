use Rattle.std.proofs.Common.{◌≡◌, ℕ, ◌<◌, Some}
use Rattle.std.specs.List.{slice_get}
use Rattle.lit_rel.specs.declared.between.Pair.{Pair}
use Rattle.lit_rel.specs.Rows.{Holds, rows_len}
use Rattle.lit_why.specs.Internal.Deriving.{HasForced, IsOfPair}
use Rattle.lit_why.proofs.derivations.following.forced.Given as goal

abbrev pub invariant-loop-pair : goal.invariant-loop-pair
invariant-loop-pair l =
    (k : ℕ) (p : Pair) → k < l.pair-index → slice_get l.pair-items k ≡ Some p → HasForced (IsOfPair (rows_len l.old) p) (Holds l.old) (Holds l.known)
