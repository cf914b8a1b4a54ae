use Rattle.std.proofs.Common.{sym, subst, ℕ, List}
use Rattle.std.specs.List.Sorted.{IsNonDecreasingBy}
use Rattle.lit_paths.proofs.PlanFacts.{found, of_numbered, planned-rise}
use Rattle.lit_paths.proofs.planning.Plan.combination.Goals as goal

pub combination_of-requires : goal.combination_of-requires
combination_of-requires c = subst (λ (ns : List ℕ). IsNonDecreasingBy (λ (x : ℕ). x) ns) (sym c.as_slice.ensures.value) (planned-rise _ c.self.invariant)

pub returns-clause-value : goal.returns-clause-value
returns-clause-value c =
    let is = found _ c.self.invariant c.args.n c.combination_of.result _ _ c.as_slice.ensures.value c.self.view_is c.requires c.combination_of.ensures.bound c.combination_of.ensures.before c.combination_of.ensures.behind in
    of_numbered _ c.args.n c.combination_of.result is.known is.low is.high

pub returns-clause-low : goal.returns-clause-low
returns-clause-low c = (found _ c.self.invariant c.args.n c.combination_of.result _ _ c.as_slice.ensures.value c.self.view_is c.requires c.combination_of.ensures.bound c.combination_of.ensures.before c.combination_of.ensures.behind).low

pub returns-clause-high : goal.returns-clause-high
returns-clause-high c = (found _ c.self.invariant c.args.n c.combination_of.result _ _ c.as_slice.ensures.value c.self.view_is c.requires c.combination_of.ensures.bound c.combination_of.ensures.before c.combination_of.ensures.behind).high
