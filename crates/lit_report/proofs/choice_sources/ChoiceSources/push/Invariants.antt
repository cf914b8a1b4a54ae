use Rattle.std.proofs.Common.{◌≡◌, ◌+◌, ◌*◌, ◌-◌, ◌≤◌}
use Rattle.lit_report.proofs.choice_sources.ChoiceSources.push.Given as goal

abbrev pub invariant-digits : goal.invariant-digits
invariant-digits l = record {
  low : l.low ≡ l.initial.low + l.digit * l.ways;
  at_least : l.low ≤ l.choice;
  small : l.digit ≤ l.low;
}

abbrev pub decreases-digits : goal.decreases-digits
decreases-digits l = l.choice - l.low
