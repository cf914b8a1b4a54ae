use Rattle.lit_paths.specs.ByteReads.{byte_reads}
use Rattle.lit_solve.specs.Box.{events_on}
use Rattle.lit_why.specs.Internal.Unmixing.{TakesFilled}
use Rattle.lit_why.proofs.BoxLemmas.{AreFirstFor}
use Rattle.lit_why.proofs.unmixing.filled_domains.Given as goal

abbrev pub invariant-loop-place : goal.invariant-loop-place
invariant-loop-place l =
    AreFirstFor (byte_reads (events_on l.combination)) l.sources (TakesFilled (events_on l.combination) l.read l.filler) l.domains l.place
