use Rattle.std.proofs.Common.{◌+◌, arith, ap, ◌∙◌}
use Rattle.lit_paths.specs.Plan.{choices_before}
use Rattle.lit_paths.proofs.Totals.{entered_end}
use Rattle.lit_paths.proofs.combination.Combination.end.Goals as goal

pub overflow_add-result : goal.overflow_add-result
overflow_add-result c = omega (arith, c.self.invariant.few)

pub returns-clause-value : goal.returns-clause-value
returns-clause-value c = entered_end _ c.self.invariant ∙ ap (λ p. choices_before p.0 (p.1 + 1)) c.self.view_is

pub returns-clause-few : goal.returns-clause-few
returns-clause-few c = c.self.invariant.few
