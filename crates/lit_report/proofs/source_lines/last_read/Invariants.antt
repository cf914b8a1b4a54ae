use Rattle.std.proofs.Common.{◌≤◌, length, drop}
use Rattle.lit_report.specs.ReadLine.{NoneReads}
use Rattle.lit_report.proofs.source_lines.last_read.Given as goal

abbrev pub invariant-loop-place : goal.invariant-loop-place
invariant-loop-place l = record {
  known : l.place ≤ length l.events;
  none : NoneReads (drop l.place l.events);
}

abbrev pub decreases-loop-place : goal.decreases-loop-place
decreases-loop-place l = l.place
