use Rattle.std.proofs.Common.{ℕ, ◌<◌, None, Some}
use Rattle.lit_why.specs.Internal.Unmixing.{HasNoneFilled}
use Rattle.lit_why.proofs.unmixing.first_unmixed.Given as goal

abbrev pub invariant-loop-event : goal.invariant-loop-event
invariant-loop-event l = record {
  no_init : HasNoneFilled l.problem l.goal l.read None l.sources;
  no_lesser : (d : ℕ) → d < l.event → HasNoneFilled l.problem l.goal l.read (Some d) l.sources;
}
