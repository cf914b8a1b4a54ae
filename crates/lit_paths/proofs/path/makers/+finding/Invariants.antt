use Rattle.std.proofs.Common.{◌+◌, ◌*◌}
use Rattle.lit_syntax.specs.Litmus.{statement_of, statements_of}
use Rattle.lit_paths.proofs.Stepping.{size_of, statement_size}
use Rattle.lit_paths.proofs.MakerSteps.{IsFinding}
use Rattle.lit_paths.proofs.path.makers.+finding.Given as goal

abbrev pub decreases-find_makers : goal.decreases-find_makers
decreases-find_makers l = 2 * size_of (statements_of l.body.now) + 1

abbrev pub decreases-find_makers_at : goal.decreases-find_makers_at
decreases-find_makers_at l = 2 * statement_size (statement_of l.statement.now)

abbrev pub invariant-find_makers-loop-statement : goal.invariant-find_makers-loop-statement
invariant-find_makers-loop-statement l = IsFinding l.body l.first l.guards l.initial.makers.items l.statement-index l.number l.left l.makers.items
