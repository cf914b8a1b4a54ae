use Rattle.std.proofs.Common.{◌≡◌, ◌++◌, drop}
use Rattle.lit_paths.specs.Choice.{candidates_of}
use Rattle.lit_paths.specs.ByteReads.{pair_of}
use Rattle.lit_paths.proofs.Candidates.{candidates_from}
use Rattle.lit_paths.proofs.byte_reads.candidates_of.Given as goal

abbrev pub invariant-loop-number : goal.invariant-loop-number
invariant-loop-number g l = l.candidates.items ++ candidates_from (pair_of l.read) l.number (drop l.number l.events) ≡ candidates_of l.events (pair_of l.read)
