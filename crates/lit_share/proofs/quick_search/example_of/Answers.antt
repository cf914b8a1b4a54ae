use Rattle.std.proofs.Common.{◌≡◌, sym, ap, subst, rules}
use Rattle.std.proofs.lemmas.List.Elements.{same_from_all_zip}
use Rattle.lit_valid.specs.Gives.{HasLeastOrder}
use Rattle.lit_search.specs.Report.{Report, entry_at}
use Rattle.lit_share.proofs.Firsts.{one_entry}
use Rattle.lit_share.proofs.quick_search.example_of.Goals as goal

pub example-requires : goal.example-requires
example-requires c = (one_entry c.args.plan.now c.args.choice c.requires.given.0 c.in_ok-found.found c.in_ok-found.ensures c.requires.given.1).0

pub returns-clause-order : goal.returns-clause-order
returns-clause-order c =
    let t = c.args.plan.now in
    let found = c.in_ok-found.found in
    let one = one_entry t c.args.choice c.requires.given.0 found c.in_ok-found.ensures c.requires.given.1 in
    let view = ap (λ (r : Report). (entry_at r 0).order) c.found.view_is in
    let copied : c.in_ok-order.order.items ≡ c.example.result.now.order.items = search (rules, same_from_all_zip) in
    let same : c.in_ok-order.order.items ≡ (entry_at found 0).order = cc (view, copied, c.example.ensures.order) in
    subst (HasLeastOrder t c.args.choice) (sym same) one.1
