use Rattle.std.proofs.Common.{inl, inr}
use Rattle.lit_why.proofs.UnmixingLemmas.{sourced, stays_first}
use Rattle.lit_why.proofs.unmixing.first_on.Goals as goal

pub is_unmixed-requires : goal.is_unmixed-requires
is_unmixed-requires c =
    rw (c.combination.ensures, c.as_slice.ensures.value) (sourced c.args.problem.now c.args.goal c.args.least.sources.items c.requires.least.gives)

pub returns-then-is_unmixed : goal.returns-then-is_unmixed
returns-then-is_unmixed c =
    stays_first c.args.problem.now c.args.goal c.args.read c.args.least.sources.items c.args.least.order.items c.requires.least
    (inl (rw (c.combination.ensures, c.as_slice.ensures.value) at (c.is_unmixed.ensures c.if-is_unmixed.true)))

pub first_unmixed-requires-clause-sourced : goal.first_unmixed-requires-clause-sourced
first_unmixed-requires-clause-sourced c =
    rw (c.as_slice-2.ensures.value) (sourced c.args.problem.now c.args.goal c.args.least.sources.items c.requires.least.gives)

pub returns-in-None : goal.returns-in-None
returns-in-None c =
    stays_first c.args.problem.now c.args.goal c.args.read c.args.least.sources.items c.args.least.order.items c.requires.least
    (inr (rw (c.as_slice-2.ensures.value) at c.in-None.ensures))
