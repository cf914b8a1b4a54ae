use Rattle.std.proofs.Common.{◌<◌, IfSome, length}
use Rattle.lit_paths.specs.ByteReads.{byte_reads}
use Rattle.lit_solve.specs.Box.{events_on}
use Rattle.lit_why.proofs.cases.covering.cutting_place.Given as goal

abbrev pub invariant-loop-place : goal.invariant-loop-place
invariant-loop-place l = IfSome l.found (λ place. place < length (byte_reads (events_on l.problem)))
