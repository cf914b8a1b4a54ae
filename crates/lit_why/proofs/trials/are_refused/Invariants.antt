use Rattle.std.proofs.Common.{◌<◌, ℕ, false}
use Rattle.lit_solve.specs.Box.{box_with}
use Rattle.lit_why.specs.Internal.Trials.{IsReadRefused}
use Rattle.lit_why.proofs.trials.are_refused.Given as goal

abbrev pub invariant-loop-read : goal.invariant-loop-read
invariant-loop-read l = (r : ℕ) → r < l.read → IsReadRefused (box_with l.problem l.domains) r false
