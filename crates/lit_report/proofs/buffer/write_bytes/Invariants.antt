use Rattle.std.proofs.Common.{◌≡◌, length}
use Rattle.lit_report.specs.Counted.{device_of, failures_of}
use Rattle.lit_report.proofs.Written.{Begun}
use Rattle.lit_report.proofs.buffer.write_bytes.Given as goal

abbrev pub invariant-loop-rest : goal.invariant-loop-rest
invariant-loop-rest g l = record {
  begun : Begun (g.W.Write.contents (device_of l.fn.output)) (g.W.Write.contents (device_of l.output)) l.bytes l.rest;
  none_failed : failures_of l.output ≡ failures_of l.fn.output;
}

abbrev pub decreases-loop-rest : goal.decreases-loop-rest
decreases-loop-rest g l = length l.rest
