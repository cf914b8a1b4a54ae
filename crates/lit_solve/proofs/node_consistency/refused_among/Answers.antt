use Rattle.lit_solve.proofs.Words.{arith, byte_read_at, ByteRead, common_steps, events_on, false≢true, get_or, IsRefusedOn, split_less}
use Rattle.lit_solve.proofs.Words.{subst, sym, ℕ, ◌∙◌}
use Rattle.lit_solve.proofs.PruningLemmas.{read_known, read_listed, read_there}
use Rattle.lit_solve.proofs.ReadByteLemmas.{matching_more, matching_same}
use Rattle.lit_solve.proofs.node_consistency.refused_among.Goals as goal

abbrev no_read : ByteRead
no_read = record { read = 0; byte = 0 }

pub is_source_refused-requires-clause-read : goal.is_source_refused-requires-clause-read
is_source_refused-requires-clause-read c =
    let events = events_on c.args.combination.now in
    read_known events (c.byte_reads_are_of_events.ensures events) c.byte_reads.result.now c.args.place no_read c.byte_reads.ensures c.requires.place

pub is_source_refused-requires-clause-source : goal.is_source_refused-requires-clause-source
is_source_refused-requires-clause-source c = c.requires.known c.in-Some.source (c.loop-source.invariant.left c.in-Some.source c.in-Some.ensures.there)

pub with-refused-requires : goal.with-refused-requires
with-refused-requires c = grind (arith, common_steps, c.requires.known, c.loop-source.invariant.left)

pub loop-source-smaller : goal.loop-source-smaller
loop-source-smaller c = split_less c.loop-source.left c.in-Some.source c.in-Some.others c.in-Some.ensures

pub loop-source-smaller-then-is_source_refused : goal.loop-source-smaller-then-is_source_refused
loop-source-smaller-then-is_source_refused c = split_less c.loop-source.left c.in-Some.source c.in-Some.others c.in-Some.ensures

pub loop-source-preserved-then-is_source_refused : goal.loop-source-preserved-then-is_source_refused
loop-source-preserved-then-is_source_refused c =
    let events = events_on c.args.combination.now in
    let reads = c.byte_reads.result.now in
    let listed = read_listed events reads c.args.place no_read c.byte_reads.ensures c.requires.place in
    let same = read_there events c.args.place (get_or reads c.args.place no_read) listed in
    let Refused : ℕ × ℕ → Type 0 = λ p. IsRefusedOn c.args.combination.now p.0 p.1 c.in-Some.source in record {
      left = λ v h. c.loop-source.invariant.left v ((c.in-Some.ensures.rest v).0 h).0;
      refused = matching_more c.args.among c.loop-source.left c.in-Some.others c.loop-source.refused
          (λ v. IsRefusedOn c.args.combination.now (byte_read_at events c.args.place).0 (byte_read_at events c.args.place).1 v)
          c.in-Some.source c.in-Some.ensures c.loop-source.invariant.refused c.with-refused.result
          (c.loop-source.invariant.left c.in-Some.source c.in-Some.ensures.there)
          (subst Refused same (c.is_source_refused.ensures.0 c.if-is_source_refused.true)) c.with-refused.ensures;
    }

pub loop-source-preserved : goal.loop-source-preserved
loop-source-preserved c =
    let events = events_on c.args.combination.now in
    let reads = c.byte_reads.result.now in
    let listed = read_listed events reads c.args.place no_read c.byte_reads.ensures c.requires.place in
    let same = read_there events c.args.place (get_or reads c.args.place no_read) listed in
    let Refused : ℕ × ℕ → Type 0 = λ p. IsRefusedOn c.args.combination.now p.0 p.1 c.in-Some.source in record {
      left = λ v h. c.loop-source.invariant.left v ((c.in-Some.ensures.rest v).0 h).0;
      refused = matching_same c.args.among c.loop-source.left c.in-Some.others c.loop-source.refused
          (λ v. IsRefusedOn c.args.combination.now (byte_read_at events c.args.place).0 (byte_read_at events c.args.place).1 v)
          c.in-Some.source c.in-Some.ensures c.loop-source.invariant.refused
          (λ is. false≢true (sym c.if-is_source_refused.false ∙ c.is_source_refused.ensures.1 (subst Refused (sym same) is)));
    }
