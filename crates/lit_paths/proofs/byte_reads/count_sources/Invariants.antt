use Rattle.std.proofs.Common.{◌≡◌, ◌≤◌, length, map, take}
use Rattle.lit_paths.specs.declared.limits.TheConstants.{CHOICE_LIMIT}
use Rattle.lit_paths.specs.Choice.{product}
use Rattle.lit_paths.specs.Internal.CandidateLists.{candidates_for}
use Rattle.lit_paths.proofs.byte_reads.count_sources.Given as goal

abbrev pub invariant-loop-read : goal.invariant-loop-read
invariant-loop-read l = record {
  counted : l.total ≡ length (product (map (candidates_for l.events) (take l.read-index l.reads)));
  some : 1 ≤ l.total;
  few : l.total ≤ CHOICE_LIMIT;
}
