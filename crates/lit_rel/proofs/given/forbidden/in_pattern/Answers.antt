use Rattle.std.proofs.Common.{refl}
use Rattle.std.proofs.lemmas.Bool.{false≢true}
use Rattle.lit_paths.specs.Event.{event_at}
use Rattle.lit_rel.proofs.RaceLemmas.{same_range_back}
use Rattle.lit_rel.proofs.SameRelations.{alone, joined}
use Rattle.lit_rel.proofs.given.forbidden.in_pattern.Goals as goal

pub returns-then-holds : goal.returns-then-holds
returns-then-holds c v =
    let ordered = c.if-holds.ensures.0 refl in
    let earlier = c.successors-before_read.ensures v in
    let turned = c.args.before.now.same.pairs v c.args.read in
    let later = c.successors-after_source.ensures v in
    let after = c.peers_among.ensures v in
    let before = c.peers_among-then-holds.ensures v in
    joined (c.union-then-holds.ensures v) (c.union.ensures v) (c.between_synchronized-others.ensures v) (
      λ h. let p = after.0 h in
          (p.0.write, record { source_before = ordered; other_before = turned.0 (earlier.0 p.2); source = p.1; same_range = same_range_back (event_at c.args.events.now v) (event_at c.args.events.now c.args.source) p.0.same_range }),
      λ s. after.1 (record { known = c.requires.source; write = s.0; same_range = same_range_back (event_at c.args.events.now c.args.source) (event_at c.args.events.now v) s.1.same_range }, s.1.source, earlier.1 (turned.1 s.1.other_before)),
    ) (
      λ h. let p = before.0 h in
          (p.0.write, record { source_before = ordered; other_after = later.0 p.2; reader = p.1; same_range = p.0.same_range }),
      λ s. before.1 (record { known = c.requires.read; write = s.0; same_range = s.1.same_range }, s.1.reader, later.1 s.1.other_after),
    )

pub returns-else-holds : goal.returns-else-holds
returns-else-holds c v =
    alone (c.between_synchronized-others.ensures v)
    (λ is. false≢true (c.if-holds.ensures.1 is.source_before)) (λ is. false≢true (c.if-holds.ensures.1 is.source_before))
