use Rattle.std.proofs.Common.{◌≡◌, ◌++◌, ◌<◌, ◌≤◌, ◌^◌, drop, length}
use Rattle.std.specs.Fmt.{decimal}
use Rattle.lit_report.proofs.digits.write_digits.Given as goal

abbrev pub invariant-loop-left : goal.invariant-loop-left
invariant-loop-left l = record {
  fits : l.left < 2 ^ 64;
  known : l.start ≤ length l.digits;
  room : length (decimal l.left) ≤ l.start;
  text : decimal l.left ++ drop l.start l.digits ≡ decimal l.number;
}

abbrev pub decreases-loop-left : goal.decreases-loop-left
decreases-loop-left l = l.left
