use Rattle.std.proofs.Common.{arith, ◌∙◌}
use Rattle.std.proofs.lemmas.List.{take_all}
use Rattle.lit_rel.specs.Part.{part_events}
use Rattle.lit_rel.proofs.GivenLemmas.{one_more, put_more, reads_from_more}
use Rattle.lit_rel.proofs.SourceLemmas.{no_byte}
use Rattle.lit_rel.proofs.part.Part.reads_from.Goals as goal

pub loop-byte-preserved : goal.loop-byte-preserved
loop-byte-preserved c =
    let more = one_more (part_events c.args.self.now) c.given-given.result.bytes.now (rw c.given-given.ensures.events at c.given-given.result.first_reads) c.loop-byte.byte-index no_byte c.loop-byte-test.true in
    record {
      len = c.put.ensures.len ∙ c.loop-byte.invariant.len;
      pairs = λ r w. put_more (c.put.ensures.pairs r w) (c.loop-byte.invariant.pairs r w) (reads_from_more _ _ _ _ _ more r w) (grind arith);
    }

pub returns-clause-pairs : goal.returns-clause-pairs
returns-clause-pairs c r w = rw (take_all c.loop-byte.byte-index c.given-given.result.bytes.now c.loop-byte-test.false, c.given-given.ensures.sources) at (c.loop-byte.invariant.pairs r w)
