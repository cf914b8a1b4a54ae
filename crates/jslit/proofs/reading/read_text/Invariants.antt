use Rattle.std.proofs.Common.{◌≡◌, ◌-◌, ◌≤◌, length}
use Rattle.std.specs.Io.KnownBytes.{Consumes}
use Rattle.jslit.specs.declared.reading.TheConstants.{READ_LIMIT}
use Rattle.lit_report.specs.Counted.{device_of, failures_of}
use Rattle.jslit.proofs.reading.read_text.Given as goal

abbrev pub invariant-reading : goal.invariant-reading
invariant-reading g l = record {
  few : length l.text.items ≤ READ_LIMIT;
  consumed : Consumes (g.R.Read.remaining (device_of l.fn.input)) (g.R.Read.remaining (device_of l.input)) l.text.items;
  none_failed : failures_of l.input ≡ failures_of l.fn.input;
}

abbrev pub decreases-reading : goal.decreases-reading
decreases-reading g l = READ_LIMIT - length l.text.items
