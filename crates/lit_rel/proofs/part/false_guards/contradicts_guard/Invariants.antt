use Rattle.std.proofs.Common.{ℕ, ◌<◌, Some}
use Rattle.lit_paths.specs.Plan.{events_in}
use Rattle.lit_rel.specs.Broken.{HasFalseGuardOn}
use Rattle.lit_rel.specs.Growth.{IsGivenWhole}
use Rattle.lit_rel.specs.Internal.Given.{sources_of}
use Rattle.lit_rel.specs.ReadsFrom.{value_of}
use Rattle.lit_rel.proofs.part.false_guards.contradicts_guard.Given as goal

abbrev pub invariant-loop-read : goal.invariant-loop-read
invariant-loop-read l =
    (r : ℕ) → r < l.read → IsGivenWhole (events_in l.combination.0 l.combination.1) (sources_of l.given.bytes.now) r
    → HasFalseGuardOn l.combination.0 l.combination.1 (Some r) (value_of (events_in l.combination.0 l.combination.1) (sources_of l.given.bytes.now) r) → ⊥
