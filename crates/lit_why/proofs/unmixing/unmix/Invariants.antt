use Rattle.std.proofs.Common.{ℕ, ◌<◌}
use Rattle.lit_solve.specs.Box.{events_on}
use Rattle.lit_why.specs.LeastMixing.{GivesOn, IsFirstOn}
use Rattle.lit_why.specs.Internal.Unmixing.{IsLeastAfter}
use Rattle.lit_why.proofs.unmixing.unmix.Given as goal

abbrev pub invariant-loop-read : goal.invariant-loop-read
invariant-loop-read l = record {
  after : IsLeastAfter l.problem l.goal l.read l.least.sources.items l.least.order.items;
  first : (q : ℕ) → q < l.read → IsFirstOn (events_on l.problem) (GivesOn l.problem.0 l.goal l.problem.1) l.least.sources.items q;
}
