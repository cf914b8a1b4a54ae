use Rattle.std.proofs.Common.{◌↔◌, ◌<◌, ℕ}
use Rattle.lit_rel.specs.EventSet.{HasEvent}
use Rattle.lit_rel.specs.Internal.Steps.{IsFixedStep}
use Rattle.lit_rel.proofs.part.fixed_steps.steps_from.Given as goal

abbrev pub invariant-loop-second : goal.invariant-loop-second
invariant-loop-second l = (d : ℕ) → HasEvent l.steps d ↔ ((d < l.second) × IsFixedStep l.events l.first d)
