use Rattle.std.proofs.Common.{◌≡◌, ◌≤◌, filter, length, take}
use Rattle.lit_why.specs.Attempts.{agree}
use Rattle.lit_why.proofs.counting.count_agreeing.Given as goal

abbrev pub invariant-loop-event : goal.invariant-loop-event
invariant-loop-event l = record {
  few : l.count ≤ l.event-index;
  are : l.count ≡ length (filter (agree l.asked l.events l.byte l.source) (take l.event-index l.among));
}
