use Rattle.std.proofs.Common.{◌≡◌, drop}
use Rattle.lit_paths.specs.ByteReads.{byte_reads}
use Rattle.lit_solve.specs.Box.{events_on}
use Rattle.lit_why.specs.Asked.{is_asked}
use Rattle.lit_why.proofs.WaysLemmas.{same_value_ways}
use Rattle.lit_why.proofs.counting.count_same_values.Given as goal

abbrev pub invariant-loop-place : goal.invariant-loop-place
invariant-loop-place l =
    l.count ≡ same_value_ways (is_asked l.combination.0 l.combination.1) (events_on l.combination)
    (drop l.place (byte_reads (events_on l.combination))) (drop l.place l.sources)
