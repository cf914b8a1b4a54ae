use Rattle.std.proofs.Common.{◌+◌, ◌-◌, ◌*◌, ◌≡◌}
use Rattle.lit_paths.proofs.combination.divided.Given as goal

abbrev pub invariant-subtracting : goal.invariant-subtracting
invariant-subtracting l = l.quotient * l.by + l.rest ≡ l.number

abbrev pub decreases-subtracting : goal.decreases-subtracting
decreases-subtracting l = l.rest + 1 - l.by
