use Rattle.std.proofs.Common.{◌≡◌, ◌++◌, take}
use Rattle.lit_paths.proofs.combination.paths.push_events.Given as goal

abbrev pub invariant-loop-event : goal.invariant-loop-event
invariant-loop-event l = l.events.items ≡ l.initial.events.items ++ take l.event-index l.event-items
