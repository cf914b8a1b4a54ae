-- The invariant of a plan.
use Rattle.std.specs.Prelude.{◌≡◌, ◌≤◌, length}
use Rattle.lit_paths.specs.declared.limits.TheConstants.{CHOICE_LIMIT}
use Rattle.lit_paths.specs.declared.planning.Plan.TheInside.{Inside}
use Rattle.lit_paths.specs.Choice.{combinations_of, choices_of}
use Rattle.lit_paths.specs.Outcome.{names_of}
use Rattle.lit_paths.specs.Internal.Totals.{totals_below}
use Rattle.lit_paths.specs.Internal.Walks.{IsInLimits}

pub record IsPlanned (p : Inside) : Type 0 where
  pub limits : IsInLimits p.paths
  pub all_totals : p.totals.items ≡ totals_below p.paths (length (combinations_of p.paths))
  pub few_choices : length (choices_of p.paths) ≤ CHOICE_LIMIT
  pub all_names : p.names.items ≡ names_of p.paths
