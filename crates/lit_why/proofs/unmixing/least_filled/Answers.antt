use Rattle.lit_solve.specs.declared.least_search.Least.{Least}
use Rattle.lit_why.proofs.UnmixingLemmas.{filled_is_box, filled_or_none}
use Rattle.lit_why.proofs.unmixing.least_filled.Goals as goal

pub least-requires : goal.least-requires
least-requires c =
    filled_is_box c.args.problem.now c.args.goal c.args.sources.now c.requires.sourced c.args.read c.args.filler c.filled_domains-domains.result
    (rw c.combination.ensures at c.filled_domains-domains.ensures) c.requires.litmus c.requires.known

pub returns : goal.returns
returns c =
    filled_or_none c.args.problem.now c.args.goal c.args.sources.now c.requires.sourced c.args.read c.args.filler c.filled_domains-domains.result
    (rw c.combination.ensures at c.filled_domains-domains.ensures) (λ (least : Least). least.sources.items) (λ (least : Least). least.order.items)
    c.least.result c.requires.known c.least.ensures
