use Rattle.std.proofs.Common.{arith, ap, ◌+◌}
use Rattle.lit_paths.specs.Plan.{choices_before}
use Rattle.lit_paths.proofs.PlanFacts.{before_mono}
use Rattle.lit_paths.proofs.planning.Plan.enter.Goals as goal

pub overflow_sub-total : goal.overflow_sub-total
overflow_sub-total c =
    omega (arith, c.first_of-first.ensures, c.end_of.ensures.value, before_mono c.args.self.now c.args.combination (c.args.combination + 1) (omega arith))

pub new-requires-clause-few : goal.new-requires-clause-few
new-requires-clause-few c =
    omega (
      arith,
      c.first_of-first.ensures,
      c.end_of.ensures.value,
      c.end_of.ensures.few,
      before_mono c.args.self.now c.args.combination (c.args.combination + 1) (omega arith),
    )

pub new-requires-clause-whole : goal.new-requires-clause-whole
new-requires-clause-whole c =
    omega (
      arith,
      c.first_of-first.ensures,
      c.end_of.ensures.value,
      before_mono c.args.self.now c.args.combination (c.args.combination + 1) (omega arith),
      ap (λ t. choices_before t (c.args.combination + 1)) c.self.view_is,
    )
