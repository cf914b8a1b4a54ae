use Rattle.std.proofs.Common.{◌≡◌}
use Rattle.lit_paths.specs.Event.{init_events}
use Rattle.lit_paths.proofs.combination.paths.make_events.Given as goal

abbrev pub invariant-loop-byte : goal.invariant-loop-byte
invariant-loop-byte l = l.events.items ≡ init_events l.byte
