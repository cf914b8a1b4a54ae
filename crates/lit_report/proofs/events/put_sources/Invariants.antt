use Rattle.std.proofs.Common.{◌≡◌, ◌<◌, drop, length}
use Rattle.std.specs.Prelude.{All}
use Rattle.lit_paths.specs.ByteReads.{byte_reads_from}
use Rattle.lit_report.specs.ReadLine.{lines_from}
use Rattle.lit_report.specs.Writing.{writing_of}
use Rattle.lit_report.proofs.Putting.{PutsOf}
use Rattle.lit_report.proofs.events.put_sources.Given as goal

abbrev pub invariant-loop-event : goal.invariant-loop-event
invariant-loop-event g l = record {
  left : length l.rest ≡ length (byte_reads_from l.event-index (drop l.event-index l.part));
  known : All (λ n. n < length l.events) l.rest;
  so_far : PutsOf (writing_of g.W.Write.contents l.fn.output l.fn.buffer) (writing_of g.W.Write.contents l.output l.buffer) (lines_from l.test l.events (drop l.event-index l.part) l.rest) (lines_from l.test l.events l.part l.sources);
}
