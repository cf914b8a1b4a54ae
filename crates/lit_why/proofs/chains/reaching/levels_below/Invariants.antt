use Rattle.std.proofs.Common.{◌+◌, ◌≤◌, length}
use Rattle.lit_rel.specs.Rows.{Holds, rows_len}
use Rattle.lit_why.proofs.CountLemmas.{events_missing}
use Rattle.lit_why.proofs.ReachLemmas.{AreReached}
use Rattle.lit_why.proofs.chains.reaching.levels_below.Given as goal

abbrev pub decreases-loop-reached : goal.decreases-loop-reached
decreases-loop-reached l = events_missing l.reached (rows_len l.steps)

abbrev pub invariant-loop-reached : goal.invariant-loop-reached
invariant-loop-reached l = record {
  reaches : AreReached (Holds l.steps) l.to l.from l.levels.items l.level l.reached;
  few : length l.levels.items + events_missing l.reached (rows_len l.steps) ≤ rows_len l.steps;
}
