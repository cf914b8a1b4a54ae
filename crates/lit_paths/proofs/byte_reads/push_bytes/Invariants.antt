use Rattle.std.proofs.Common.{◌≡◌, ◌+◌, ◌++◌, map}
use Rattle.std.specs.List.{range_with_len}
use Rattle.lit_paths.specs.ByteReads.{pair_of}
use Rattle.lit_paths.proofs.byte_reads.push_bytes.Given as goal

abbrev pub invariant-loop-k : goal.invariant-loop-k
invariant-loop-k l = map pair_of l.reads.items ≡ map pair_of l.initial.reads.items ++ map (λ k. (l.number, l.event.first + k)) (range_with_len 0 l.k)
