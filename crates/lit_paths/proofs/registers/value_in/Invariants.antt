use Rattle.std.proofs.Common.{◌≡◌, drop, zip}
use Rattle.lit_paths.specs.Outcome.{value_in}
use Rattle.lit_paths.proofs.registers.value_in.Given as goal

abbrev pub invariant-loop-place : goal.invariant-loop-place
invariant-loop-place l = value_in (zip l.names l.outcome) l.agent l.register ≡ value_in (drop l.place (zip l.names l.outcome)) l.agent l.register
