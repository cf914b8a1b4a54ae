use Rattle.std.proofs.Common.{◌-◌}
use Rattle.arrayvec.specs.ArrayVec.{array_vec_len}
use Rattle.lit_order.specs.Internal.Constrained.{constrained_len}
use Rattle.lit_order.proofs.forced_finder.+extend_greedily.Given as goal

abbrev pub decreases-extend_greedily : goal.decreases-extend_greedily
decreases-extend_greedily l = constrained_len l.constraints.now - array_vec_len l.order.now
