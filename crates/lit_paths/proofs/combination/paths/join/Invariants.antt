use Rattle.lit_paths.proofs.CombinedPaths.{AreFirstPaths}
use Rattle.lit_paths.proofs.combination.paths.join.Given as goal

abbrev pub invariant-loop-agent : goal.invariant-loop-agent
invariant-loop-agent l = AreFirstPaths l.paths l.combination l.agent l.later l.combination_paths.numbers.items l.combination_paths.firsts.items l.combination_paths.events.items
