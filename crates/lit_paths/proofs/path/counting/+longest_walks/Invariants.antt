use Rattle.std.proofs.Common.{◌≤◌}
use Rattle.lit_paths.specs.Internal.Walks.{many_accesses}
use Rattle.lit_paths.proofs.Counts.{IsMeasured}
use Rattle.lit_paths.proofs.path.counting.+longest_walks.Given as goal

abbrev pub invariant-longest_walk-loop-statement : goal.invariant-longest_walk-loop-statement
invariant-longest_walk-loop-statement l = (l.count ≤ many_accesses) × IsMeasured many_accesses l.body l.statement-index l.count
