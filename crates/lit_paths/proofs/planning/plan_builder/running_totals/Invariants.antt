use Rattle.std.proofs.Common.{◌≡◌, ◌≤◌}
use Rattle.lit_paths.specs.declared.limits.TheConstants.{CHOICE_LIMIT}
use Rattle.lit_paths.specs.Plan.{choices_before}
use Rattle.lit_paths.specs.Internal.Totals.{totals_below}
use Rattle.lit_paths.proofs.planning.plan_builder.running_totals.Given as goal

abbrev pub invariant-loop-combination : goal.invariant-loop-combination
invariant-loop-combination l = record {
  listed : l.totals.items ≡ totals_below l.paths l.combination;
  counted : l.total ≡ choices_before l.paths l.combination;
  few : l.total ≤ CHOICE_LIMIT;
}
