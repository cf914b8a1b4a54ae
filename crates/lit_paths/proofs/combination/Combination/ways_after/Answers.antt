use Rattle.lit_paths.proofs.Entered.{later_length, later_at, later_some}
use Rattle.lit_paths.proofs.combination.Combination.ways_after.Goals as goal

pub bounds-as_slice-place : goal.bounds-as_slice-place
bounds-as_slice-place c = later_length _ c.self.invariant _ c.self.view_is c.args.place c.requires c.as_slice.result.now c.as_slice.ensures.value

pub returns-clause-value : goal.returns-clause-value
returns-clause-value c = later_at _ c.self.invariant _ c.self.view_is c.args.place c.requires c.as_slice.result.now c.as_slice.ensures.value

pub returns-clause-some : goal.returns-clause-some
returns-clause-some c = later_some _ c.self.invariant _ c.self.view_is c.args.place c.requires c.as_slice.result.now c.as_slice.ensures.value
