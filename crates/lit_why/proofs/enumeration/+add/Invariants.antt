use Rattle.std.proofs.Common.{◌-◌, length}
use Rattle.lit_paths.specs.ByteReads.{byte_reads}
use Rattle.lit_solve.specs.Box.{box_with, events_on}
use Rattle.lit_why.specs.Internal.Added.{Adds}
use Rattle.lit_why.proofs.NodeLemmas.{AreLeft, TriesPast}
use Rattle.lit_why.proofs.enumeration.+add.Given as goal

abbrev pub decreases-add : goal.decreases-add
decreases-add l = length (byte_reads (events_on l.problem.now)) - l.place

abbrev pub invariant-loop-source : goal.invariant-loop-source
invariant-loop-source l = record {
  left : AreLeft (box_with l.problem l.domains) l.place l.left;
  adds : Adds l.problem.0 l.most (TriesPast (box_with l.problem l.domains) l.class l.place l.left) l.fn.attempts.items l.attempts.items;
}

abbrev pub decreases-loop-source : goal.decreases-loop-source
decreases-loop-source l = l.left.bits
