use Rattle.std.proofs.Common.{◌≡◌, ◌++◌, drop, map}
use Rattle.lit_paths.specs.ByteReads.{byte_reads, byte_reads_from, pair_of}
use Rattle.lit_paths.proofs.byte_reads.find_byte_reads.Given as goal

abbrev pub invariant-loop-number : goal.invariant-loop-number
invariant-loop-number l = map pair_of l.reads.items ++ byte_reads_from l.number (drop l.number l.events) ≡ byte_reads l.events
