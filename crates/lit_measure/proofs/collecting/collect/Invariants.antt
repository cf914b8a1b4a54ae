use Rattle.std.proofs.Common.{◌≡◌, ◌-◌, ◌≤◌}
use Rattle.lit_measure.proofs.collecting.collect.Given as goal

abbrev pub invariant-loop-from : goal.invariant-loop-from
invariant-loop-from l = record {
  after : l.collector.end ≤ l.from;
  before : l.from ≤ l.total;
  test : l.collector.test ≡ l.plan;
}

abbrev pub decreases-loop-from : goal.decreases-loop-from
decreases-loop-from l = l.total - l.from
