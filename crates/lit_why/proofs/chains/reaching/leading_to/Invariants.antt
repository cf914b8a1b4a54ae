use Rattle.std.proofs.Common.{◌↔◌, ℕ, ◌<◌}
use Rattle.lit_rel.specs.EventSet.{HasEvent}
use Rattle.lit_rel.specs.Rows.{Holds}
use Rattle.lit_why.proofs.chains.reaching.leading_to.Given as goal

abbrev pub invariant-loop-event : goal.invariant-loop-event
invariant-loop-event l = (e : ℕ) → HasEvent l.leading e ↔ ((e < l.event) × ((d : ℕ) × Holds l.steps e d × HasEvent l.set d))
