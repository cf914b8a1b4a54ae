use Rattle.std.proofs.Common.{map}
use Rattle.lit_paths.proofs.WaySteps.{AreFormed}
use Rattle.lit_paths.proofs.combination.find_ways.Given as goal

abbrev pub invariant-loop-read : goal.invariant-loop-read
invariant-loop-read l = AreFormed l.events l.reads l.read-index (map (λ list. list.items) l.ways.candidates.items) l.ways.later.items l.left
