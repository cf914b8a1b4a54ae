use Rattle.std.proofs.Common.{◌∙◌, arith, inl, inr, refl}
use Rattle.std.proofs.lemmas.List.{take_all}
use Rattle.lit_rel.specs.Rows.{Holds}
use Rattle.lit_rel.proofs.GivenLemmas.{forbidden_more, one_more, put_more}
use Rattle.lit_rel.proofs.ReadingLemmas.{write_known}
use Rattle.lit_rel.proofs.SourceLemmas.{no_byte}
use Rattle.lit_rel.proofs.given.Given.between.Goals as goal
use Rattle.lit_rel.proofs.given.Given.between.Goals.{then-not-is_empty, else-not-is_empty}

pub loop-byte-preserved : goal.loop-byte-preserved
loop-byte-preserved c =
    let events = c.args.self.now.events.now in
    let so_far = c.loop-byte.invariant in
    let more = one_more events c.args.self.now.bytes.now c.args.self.now.first_reads c.loop-byte.byte-index no_byte c.loop-byte-test.true in
    let adds = forbidden_more _ _ _ _ _ more events (Holds c.args.before.now.rows) in
    let others = c.others_between-others.ensures in
    elim c.if-not-is_empty.branch [
      | then-not-is_empty p ↦ rw p.between-is record {
        len = p.forbid.ensures.len ∙ so_far.len;
        count = omega (arith, so_far.count, p.forbid.ensures.count);
        triples = λ w r v. put_more (p.forbid.ensures.triples w r v) (so_far.triples w r v) (adds w r v)
            (λ h. (h.1, h.0, ((others v).0 h.3).1), λ h. let known = write_known events v h.2.writes in (h.1, h.0, rw (← so_far.len) at known, (others v).1 (known, h.2)));
      }
      | else-not-is_empty p ↦ rw p.between-is record {
        len = so_far.len;
        count = omega (arith, so_far.count);
        triples = λ w r v. (
          λ f. (adds w r v).1 (inl ((so_far.triples w r v).0 f)),
          λ t. elim ((adds w r v).0 t) [
            | inl old ↦ (so_far.triples w r v).1 old
            | inr h ↦ absurd (p.if-not-is_empty.ensures.0 refl v ((others v).1 (write_known events v h.2.writes, h.2)))
          ],
        );
      }
    ]

pub returns-clause-triples : goal.returns-clause-triples
returns-clause-triples c w r v =
    rw (take_all c.loop-byte.byte-index c.args.self.now.bytes.now c.loop-byte-test.false) at (c.loop-byte.invariant.triples w r v)
