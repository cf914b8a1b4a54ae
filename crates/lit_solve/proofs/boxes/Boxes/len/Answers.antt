use Rattle.lit_solve.proofs.Words.{arith}
use Rattle.lit_solve.proofs.SoundRangeLemmas.{len_fits}
use Rattle.lit_solve.proofs.boxes.Boxes.len.Goals as goal

pub overflow_add-result : goal.overflow_add-result
overflow_add-result c = omega (arith, len_fits _ c.self.invariant)

pub overflow_add-result-2 : goal.overflow_add-result-2
overflow_add-result-2 c = omega (arith, len_fits _ c.self.invariant)
