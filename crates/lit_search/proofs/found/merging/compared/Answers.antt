use Rattle.lit_search.proofs.Words.{joined_entries, ◌∙◌}
use Rattle.lit_search.proofs.RankLemmas.{fronts}
use Rattle.lit_search.proofs.found.merging.compared.Goals as goal

pub returns-in-Some-Some : goal.returns-in-Some-Some
returns-in-Some-Some c =
    let first = c.in-Some-Some.ensures in
    let second = c.in-Some-Some.ensures' in
    c.cmp_ranks.ensures
    ∙ fronts (joined_entries c.args.parts.now) c.args.a.now.items c.args.b.now.items c.in-Some-Some.first.now c.in-Some-Some.second.now c.requires.first c.requires.second
    first.item.3.0 first.lookup second.item.3.0 second.lookup
