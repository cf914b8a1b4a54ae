use Rattle.std.proofs.Common.{◌≡◌, ◌-◌, ◌<◌, ℕ, [], ◌∷◌, ◌++◌}
use Rattle.arrayvec.specs.ArrayVec.{array_vec_len}
use Rattle.lit_order.specs.Internal.Constrained.{BeginsNone, constrained_len}
use Rattle.lit_order.proofs.forced_finder.+complete.Given as goal

abbrev pub decreases-complete : goal.decreases-complete
decreases-complete l = constrained_len l.constraints.now - array_vec_len l.order.now

abbrev pub invariant-loop-event : goal.invariant-loop-event
invariant-loop-event l = record {
  unchanged : l.order.items ≡ l.fn.order.items;
  none : (e : ℕ) → e < l.event → BeginsNone l.constraints (l.fn.order.items ++ e ∷ []);
}
