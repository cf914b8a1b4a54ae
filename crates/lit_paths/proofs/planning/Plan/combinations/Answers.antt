use Rattle.std.proofs.Common.{arith, ap, ◌∙◌, length}
use Rattle.lit_paths.specs.Choice.{combinations_of}
use Rattle.lit_paths.proofs.PlanFacts.{planned-length, planned-some, planned-few}
use Rattle.lit_paths.proofs.planning.Plan.combinations.Goals as goal

pub returns-clause-value : goal.returns-clause-value
returns-clause-value c = ap length c.as_slice.ensures.value ∙ planned-length _ c.self.invariant ∙ ap (λ t. length (combinations_of t)) c.self.view_is

pub returns-clause-some : goal.returns-clause-some
returns-clause-some c = omega (arith, ap length c.as_slice.ensures.value, planned-length _ c.self.invariant, planned-some _ c.self.invariant)

pub returns-clause-few : goal.returns-clause-few
returns-clause-few c = omega (arith, ap length c.as_slice.ensures.value, planned-length _ c.self.invariant, planned-few _ c.self.invariant)
