use Rattle.std.proofs.Common.{arith, ap, ◌∙◌, length, ◌≡◌, ◌+◌, ◌-◌}
use Rattle.lit_paths.specs.Choice.{combinations_of}
use Rattle.lit_paths.specs.Plan.{choices_before}
use Rattle.lit_paths.proofs.Totals.{before_all}
use Rattle.lit_paths.proofs.planning.Plan.total.Goals as goal

pub returns-clause-value : goal.returns-clause-value
returns-clause-value c =
    c.end_of.ensures.value
    ∙ ap (choices_before c.args.self.now) (let e : c.combinations.result - 1 + 1 ≡ length (combinations_of c.args.self.now) = omega (arith, c.combinations.ensures.value, c.combinations.ensures.some) in e)
    ∙ before_all c.args.self.now (length (combinations_of c.args.self.now)) (omega arith)
