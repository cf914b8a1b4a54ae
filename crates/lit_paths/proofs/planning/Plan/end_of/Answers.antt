use Rattle.std.proofs.Common.{arith, ap, ◌∙◌, get_or, length, ◌+◌}
use Rattle.lit_paths.specs.Choice.{combinations_of}
use Rattle.lit_paths.specs.Plan.{choices_before}
use Rattle.lit_paths.proofs.PlanFacts.{planned-few, planned-length, planned-at, planned-below, planned-end}
use Rattle.lit_paths.proofs.planning.Plan.end_of.Goals as goal

pub offset_bounds-as_slice-combination : goal.offset_bounds-as_slice-combination
offset_bounds-as_slice-combination c = omega (arith, c.requires, ap (λ t. length (combinations_of t)) c.self.view_is, planned-few _ c.self.invariant)

pub bounds-as_slice-combination : goal.bounds-as_slice-combination
bounds-as_slice-combination c =
    omega (arith, c.requires, ap (λ t. length (combinations_of t)) c.self.view_is, planned-length _ c.self.invariant, ap length c.as_slice.ensures.value)

pub returns-clause-value : goal.returns-clause-value
returns-clause-value c =
    ap (λ ns. get_or ns c.args.combination 0) c.as_slice.ensures.value
    ∙ planned-at _ c.self.invariant c.args.combination 0 (omega (arith, c.requires, ap (λ t. length (combinations_of t)) c.self.view_is))
    ∙ ap (λ t. choices_before t (c.args.combination + 1)) c.self.view_is

pub returns-clause-few : goal.returns-clause-few
returns-clause-few c =
    omega (
      arith,
      ap (λ ns. get_or ns c.args.combination 0) c.as_slice.ensures.value,
      planned-at _ c.self.invariant c.args.combination 0 (omega (arith, c.requires, ap (λ t. length (combinations_of t)) c.self.view_is)),
      planned-below _ c.self.invariant (c.args.combination + 1),
    )

pub returns-clause-some : goal.returns-clause-some
returns-clause-some c =
    omega (
      arith,
      ap (λ ns. get_or ns c.args.combination 0) c.as_slice.ensures.value,
      planned-at _ c.self.invariant c.args.combination 0 (omega (arith, c.requires, ap (λ t. length (combinations_of t)) c.self.view_is)),
      planned-end _ c.self.invariant c.args.combination (omega (arith, c.requires, ap (λ t. length (combinations_of t)) c.self.view_is)),
    )
