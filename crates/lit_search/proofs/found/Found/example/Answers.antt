use Rattle.lit_search.proofs.Words.{ap, Entry, shown_entry}
use Rattle.lit_search.proofs.RankLemmas.{found_at}
use Rattle.lit_search.proofs.found.Found.example.Goals as goal

pub returns : goal.returns
returns c =
    let is = found_at c.self.inside c.args.self.now c.self.view_is c.as_slice.result.now c.as_slice.ensures.value c.args.place c.requires
    c.index.result.now c.index.ensures (shown_entry c.in-Some.field-0-0.now c.in-Some.example.now) c.in-Some.ensures in
    record { choice = ap (λ (e : Entry). e.choice) is; order = ap (λ (e : Entry). e.order) is }
