use Rattle.std.proofs.Common.{◌≡◌, Some, get_or, ap, ◌∙◌}
use Rattle.std.proofs.lemmas.Option.{get_or_from_slice_get}
use Rattle.std.specs.List.{slice_get}
use Rattle.lit_rel.specs.declared.between.Pair.{Pair}
use Rattle.lit_rel.proofs.PlaceLemmas.{refill-set}
use Rattle.lit_rel.proofs.TripleLemmas.{Forbids-push, Forbids-set, no_pair}
use Rattle.lit_rel.proofs.between.Between.forbid.Goals as goal

pub returns-in-Some-clause-triples : goal.returns-in-Some-clause-triples
returns-in-Some-clause-triples c x y v =
    let items = c.self.inside.pairs.items in
    let place = c.in-Some.place in
    let found = c.in-Some.ensures in
    let there : slice_get items place ≡ Some found.0 = rw c.as_slice.ensures.value at found.1 in
    let read_here = get_or_from_slice_get c.deref.result.now place found.0 no_pair (rw c.deref.ensures.0 there) in
    let stored : Pair = get_or c.deref_mut.result.now place no_pair in
    let written_here : stored ≡ found.0 = get_or_from_slice_get c.deref_mut.result.now place found.0 no_pair (rw c.deref_mut.ensures.value there) in
    let new : Pair = record { source = stored.source; read = stored.read; others = c.union.result } in
    Forbids-set c.self.inside.len c.args.w c.args.r items _ c.args.others c.args.self.now c.self.view_is c.requires.source c.requires.read x y v place found.0 new there
    (record { source = found.2.source ∙ c.from.ensures; read = found.2.read ∙ c.from-2.ensures })
    (ap (λ (p : Pair). p.source) written_here) (ap (λ (p : Pair). p.read) written_here)
    (rw read_here at (c.union.ensures v)) (refill-set items c.deref_mut.result.now place new c.deref_mut.ensures.value)

pub returns-in-None-clause-triples : goal.returns-in-None-clause-triples
returns-in-None-clause-triples c x y v =
    Forbids-push c.self.inside.len c.args.w c.args.r c.self.inside.pairs.items _ c.args.others c.args.self.now c.self.view_is c.requires.source c.requires.read x y v
    c.push.ensures.items
