use Rattle.std.proofs.Common.{◌<◌, IfSome, length}
use Rattle.lit_paths.specs.Choice.{choices_of}
use Rattle.lit_reason.proofs.selection.select.Given as goal

-- what is kept is a choice of the test
abbrev pub invariant-loop-number : goal.invariant-loop-number
invariant-loop-number l = IfSome l.allowed (λ choice. choice < length (choices_of l.plan))
