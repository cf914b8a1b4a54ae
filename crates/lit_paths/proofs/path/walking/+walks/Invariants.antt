use Rattle.std.proofs.Common.{◌≡◌, ◌+◌, ◌*◌, length}
use Rattle.lit_syntax.specs.Litmus.{statement_of, statements_of}
use Rattle.lit_paths.specs.Path.{walks_of}
use Rattle.lit_paths.proofs.Stepping.{IsOnWay, left_of, statement_size, size_of}
use Rattle.lit_paths.proofs.path.walking.+walks.Given as goal

abbrev pub decreases-walk : goal.decreases-walk
decreases-walk l = 2 * size_of (statements_of l.body.now) + 1

abbrev pub decreases-meet : goal.decreases-meet
decreases-meet l = 2 * statement_size (statement_of l.statement.now)

abbrev pub invariant-walk-loop-statement : goal.invariant-walk-loop-statement
invariant-walk-loop-statement l =
    IsOnWay l.owner l.body l.number l.initial.path l.statement-index l.left l.path × (l.later ≡ length (walks_of (left_of l.body l.statement-index)))
