use Rattle.std.proofs.Common.{◌<◌, length, subst, sym, ℕ}
use Rattle.lit_syntax.specs.Syntax.{Litmus}
use Rattle.lit_paths.specs.Members.{IsCandidate}
use Rattle.lit_paths.specs.Choice.{combinations_of}
use Rattle.lit_solve.specs.Box.{events_on}
use Rattle.lit_why.specs.LeastMixing.{HasNoneOn, IsShownOn}
use Rattle.lit_why.specs.Internal.Domains.{AreDomainsBy}
use Rattle.lit_why.proofs.UnmixingLemmas.{least_of_all, none_of_all, sourced}
use Rattle.lit_why.proofs.mixing.least_mixing_on.Goals as goal

pub returns-in_default : goal.returns-in_default
returns-in_default c =
    let p = c.open-problem.result in
    subst (λ (q : Litmus × ℕ). HasNoneOn q.0 c.args.goal q.1) c.open-problem.ensures
    (none_of_all p c.args.goal c.all_candidates-domains.result
    (subst (λ (q : Litmus × ℕ). AreDomainsBy q (λ read w. IsCandidate (events_on q) read.0 read.1 w) c.all_candidates-domains.result)
    c.combination.ensures c.all_candidates-domains.ensures) c.in_default.ensures)

pub unmix-least-requires-clause-least : goal.unmix-least-requires-clause-least
unmix-least-requires-clause-least c =
    let p = c.open-problem.result in
    least_of_all p c.args.goal c.all_candidates-domains.result c.in-Some.first.sources.items c.in-Some.first.order.items
    (subst (λ (q : Litmus × ℕ). q.1 < length (combinations_of q.0)) (sym c.open-problem.ensures) c.requires)
    (subst (λ (q : Litmus × ℕ). AreDomainsBy q (λ read w. IsCandidate (events_on q) read.0 read.1 w) c.all_candidates-domains.result)
    c.combination.ensures c.all_candidates-domains.ensures) c.in-Some.ensures

pub number_of-choice-requires : goal.number_of-choice-requires
number_of-choice-requires c =
    rw (c.combination-2.ensures, c.as_slice.ensures.value)
    (sourced c.open-problem.result c.args.goal c.unmix-least.result.sources.items c.unmix-least.ensures.mixes_least.among)

pub returns : goal.returns
returns c =
    let p = c.open-problem.result in
    let n = c.number_of-choice.result in
    let sources = c.unmix-least.result.sources.items in
    let order = c.unmix-least.result.order.items in
    let same = c.combination-2.ensures in
    subst (λ (q : Litmus × ℕ). IsShownOn q.0 c.args.goal q.1 n sources order) c.open-problem.ensures
    (record {
      on = record {
        known = subst (λ (q : Litmus × ℕ). q.1 < length (combinations_of q.0)) (sym c.open-problem.ensures) c.requires;
        low = rw same at c.number_of-choice.ensures.low;
        high = rw same at c.number_of-choice.ensures.high;
        has = rw (same, c.as_slice.ensures.value) at c.number_of-choice.ensures.has;
      };
      mixes_least = c.unmix-least.ensures.mixes_least;
      ordered = c.unmix-least.ensures.ordered;
    })
