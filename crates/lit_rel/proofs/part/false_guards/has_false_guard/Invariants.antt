use Rattle.std.proofs.Common.{ℕ, ◌<◌}
use Rattle.lit_paths.specs.Plan.{IsWalkIn, first_event, path_in, walk_in}
use Rattle.lit_rel.specs.Internal.FalseGuards.{HasFalse}
use Rattle.lit_rel.proofs.part.false_guards.has_false_guard.Given as goal

abbrev pub invariant-loop-agent : goal.invariant-loop-agent
invariant-loop-agent l = record {
  none : (i : ℕ) → i < l.agent → HasFalse (path_in l.combination.0 l.combination.1 i).tests (first_event l.combination.0 l.combination.1 i) l.asked l.value → ⊥;
  walks : (i : ℕ) → i < l.agent → IsWalkIn l.combination.0 l.combination.1 i (walk_in l.combination.0 l.combination.1 i);
}
