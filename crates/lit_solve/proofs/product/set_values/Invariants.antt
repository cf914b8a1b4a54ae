use Rattle.lit_solve.proofs.OpenReadLemmas.{IsSetSoFar}
use Rattle.lit_solve.proofs.product.set_values.Given as goal

abbrev pub invariant-loop-i : goal.invariant-loop-i
invariant-loop-i l = IsSetSoFar l.registers.items l.i l.value l.fn.values.items l.values.items
