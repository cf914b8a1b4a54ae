use Rattle.std.proofs.Common.{arith, ap, ◌∙◌, ◌≡◌, ◌+◌, ◌-◌}
use Rattle.lit_paths.specs.Plan.{choices_before}
use Rattle.lit_paths.proofs.planning.Plan.first_of.Goals as goal

pub returns-else-combination-eq0 : goal.returns-else-combination-eq0
returns-else-combination-eq0 c =
    c.end_of.ensures.value ∙ ap (choices_before c.args.self.now) (let e : c.args.combination - 1 + 1 ≡ c.args.combination = omega (arith, c.if-combination-eq0.false) in e)
