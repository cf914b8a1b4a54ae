use Rattle.std.proofs.Common.{ℕ, ◌<◌}
use Rattle.lit_rel.specs.Rows.{rows_len, Holds}
use Rattle.lit_order.specs.Internal.Deciding.{IsOtherOf, IsUndecided}
use Rattle.lit_order.proofs.triple.undecided_of.Given as goal

abbrev pub invariant-loop-other : goal.invariant-loop-other
invariant-loop-other l = (v : ℕ) → v < l.other → IsOtherOf (rows_len l.rows) l.pair v → ¬ IsUndecided (Holds l.rows) l.pair.source l.pair.read v
