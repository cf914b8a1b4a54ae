use Rattle.std.proofs.Common.{◌∙◌, arith, inl, inr, refl}
use Rattle.std.proofs.lemmas.Bool.{false≢true}
use Rattle.std.proofs.lemmas.List.{take_all}
use Rattle.lit_rel.specs.Part.{part_events}
use Rattle.lit_rel.proofs.GivenLemmas.{one_more, put_more, synchronizes_more}
use Rattle.lit_rel.proofs.SourceLemmas.{no_byte}
use Rattle.lit_rel.proofs.part.Part.synchronizes.Goals as goal
use Rattle.lit_rel.proofs.part.Part.synchronizes.Goals.{then-can_synchronize, else-can_synchronize}

pub loop-byte-preserved : goal.loop-byte-preserved
loop-byte-preserved c =
    let events = part_events c.args.self.now in
    let so_far = c.loop-byte.invariant in
    let more = one_more events c.given-given.result.bytes.now (rw c.given-given.ensures.events at c.given-given.result.first_reads) c.loop-byte.byte-index no_byte c.loop-byte-test.true in
    let adds = synchronizes_more _ _ _ _ _ more events in
    elim c.if-can_synchronize.branch [
      | then-can_synchronize p ↦
          let can = rw (c.event_at.ensures, c.event_at-in-loop-byte.ensures, c.from-source.ensures, c.from-read.ensures, c.given-given.ensures.events) at (p.if-can_synchronize.ensures.0 refl) in
          rw p.rows-is record {
            len = p.put.ensures.len ∙ so_far.len;
            pairs = λ w r. put_more (p.put.ensures.pairs w r) (so_far.pairs w r) (adds w r) (grind (arith, can));
          }
      | else-can_synchronize p ↦
          rw p.rows-is record {
            len = so_far.len;
            pairs = λ w r. (
              λ h. (adds w r).1 (inl ((so_far.pairs w r).0 h)),
              λ s. elim ((adds w r).0 s) [ inl old ↦ (so_far.pairs w r).1 old | inr h ↦ absurd (false≢true (p.if-can_synchronize.ensures.1 (rw (c.event_at.ensures, c.event_at-in-loop-byte.ensures, c.from-source.ensures, c.from-read.ensures, c.given-given.ensures.events) h.2))) ],
            );
          }
    ]

pub returns-clause-pairs : goal.returns-clause-pairs
returns-clause-pairs c w r = rw (take_all c.loop-byte.byte-index c.given-given.result.bytes.now c.loop-byte-test.false, c.given-given.ensures.sources) at (c.loop-byte.invariant.pairs w r)
