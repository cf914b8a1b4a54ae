use Rattle.lit_paths.specs.Internal.Walks.{many_walks}
use Rattle.lit_paths.proofs.Counts.{IsCounted}
use Rattle.lit_paths.proofs.path.counting.+walk_counts.Given as goal

abbrev pub invariant-walk_count-loop-statement : goal.invariant-walk_count-loop-statement
invariant-walk_count-loop-statement l = IsCounted many_walks l.body l.statement-index l.count
