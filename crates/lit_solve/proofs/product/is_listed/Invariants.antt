use Rattle.lit_solve.proofs.Words.{◌<◌, OpenRead, slice_get, Some, ℕ, ◌≡◌, ◌≢◌}
use Rattle.lit_solve.proofs.product.is_listed.Given as goal

abbrev pub invariant-loop-i : goal.invariant-loop-i
invariant-loop-i l = (k : ℕ) (it : OpenRead) → k < l.i → slice_get l.reads k ≡ Some it → it.read ≢ l.read
