use Rattle.lit_solve.proofs.Words.{◌-◌, ap, AreEventsIn, arith, byte_reads, end_sources, Event, events_in, length, length-map, List}
use Rattle.lit_solve.proofs.Words.{MatchOption, pair_of, subst, sym, ℕ, ◌∙◌, ◌≡◌}
use Rattle.lit_solve.proofs.SoundRangeLemmas.{cut_of_range, high_sourced, low_sourced, shared_fits}
use Rattle.lit_solve.proofs.RangeLemmas.{cuts_range}
use Rattle.lit_solve.proofs.boxes.Boxes.of_range.Goals as goal

pub overflow_sub-rest : goal.overflow_sub-rest
overflow_sub-rest c =
    let t = c.args.combination.now.0 in
    let k = c.args.combination.now.1 in
    let fits = shared_fits t k c.args.from c.args.to (c.choices_are_listed.ensures t) c.first_of-first.ensures.of c.requires.some
    (end_sources c.low-low.result) (end_sources c.high-high.result) c.shared-shared.result c.low-low.ensures c.high-high.ensures c.shared-shared.ensures in
    omega (arith, fits, ap length c.byte_reads-reads.ensures, length-map c.byte_reads-reads.result.now pair_of)

pub invariant_of-result : goal.invariant_of-result
invariant_of-result c =
    let t = c.args.combination.now.0 in
    let k = c.args.combination.now.1 in
    let reads : length c.byte_reads-reads.result.now ≡ length (byte_reads (events_in t k)) =
    sym (length-map c.byte_reads-reads.result.now pair_of) ∙ ap length c.byte_reads-reads.ensures in
    let lists = c.choices_are_listed.ensures t in
    let low = end_sources c.low-low.result in
    let high = end_sources c.high-high.result in
    record {
      known = c.first_of-first.ensures.known;
      sound = subst (λ (es : List Event). AreEventsIn t.bytes es) c.events-events.ensures.value c.events-events.ensures.sound;
      low_sources = low_sourced t k c.args.from c.args.to lists c.first_of-first.ensures.of c.requires.some low c.low-low.ensures;
      high_sources = high_sourced t k c.args.from c.args.to lists c.first_of-first.ensures.of c.requires.some high c.high-high.ensures;
      cut = cut_of_range t k c.args.from c.args.to lists c.first_of-first.ensures.of c.requires.some low high c.shared-shared.result
          c.count-lows.result c.count-highs.result
          c.low-low.ensures c.high-high.ensures c.shared-shared.ensures
          (subst (λ (n : ℕ). MatchOption low (c.count-lows.result ≡ 0) (λ _. c.count-lows.result ≡ n - c.shared-shared.result)) reads c.count-lows.ensures)
          (subst (λ (n : ℕ). MatchOption high (c.count-highs.result ≡ 0) (λ _. c.count-highs.result ≡ n - c.shared-shared.result)) reads c.count-highs.ensures);
    }

pub returns-clause-cuts : goal.returns-clause-cuts
returns-clause-cuts c =
    let t = c.args.combination.now.0 in
    let k = c.args.combination.now.1 in
    let retained = invariant_of-result c in
    cuts_range _ retained.cut c.args.from c.args.to (omega (arith, c.requires.some)) c.low-low.ensures c.high-high.ensures
    (c.choices_are_listed.ensures t)
    c.first_of-first.ensures.of
