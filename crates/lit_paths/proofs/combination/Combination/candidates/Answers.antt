use Rattle.lit_paths.proofs.Entered.{list_value, list_lists, list_some}
use Rattle.lit_paths.proofs.combination.Combination.candidates.Goals as goal

pub returns-clause-value : goal.returns-clause-value
returns-clause-value c =
    list_value _ c.self.invariant _ c.self.view_is c.args.place c.requires c.as_slice.result.now c.as_slice.ensures.value c.index-as_slice-place.result c.as_slice-2.result.now
    c.index-as_slice-place.is c.as_slice-2.ensures.value

pub returns-clause-lists : goal.returns-clause-lists
returns-clause-lists c =
    list_lists _ c.self.invariant _ c.self.view_is c.args.place c.requires c.as_slice.result.now c.as_slice.ensures.value c.index-as_slice-place.result c.as_slice-2.result.now
    c.index-as_slice-place.is c.as_slice-2.ensures.value

pub returns-clause-some : goal.returns-clause-some
returns-clause-some c =
    list_some _ c.self.invariant _ c.self.view_is c.args.place c.requires c.as_slice.result.now c.as_slice.ensures.value c.index-as_slice-place.result c.as_slice-2.result.now
    c.index-as_slice-place.is c.as_slice-2.ensures.value
