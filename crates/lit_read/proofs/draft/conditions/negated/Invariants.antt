use Rattle.std.proofs.Common.{◌≡◌}
use Rattle.lit_syntax.specs.Litmus.{condition_of}
use Rattle.lit_read.specs.Internal.Built.{negated}
use Rattle.lit_read.proofs.draft.conditions.negated.Given as goal

abbrev pub invariant-loop-done : goal.invariant-loop-done
invariant-loop-done l = condition_of l.negated ≡ negated l._done (condition_of l.fn.cond)
