use Rattle.std.proofs.Common.{refl}
use Rattle.std.proofs.lemmas.Bool.{false≢true}
use Rattle.lit_rel.specs.Between.{Forbids}
use Rattle.lit_rel.specs.Part.{part_events}
use Rattle.lit_rel.specs.ReadsFrom.{ReadsFrom}
use Rattle.lit_rel.specs.Rows.{Holds, rows_len}
use Rattle.lit_why.specs.Refusal.{HasNoCycle}
use Rattle.lit_why.proofs.RefusalLemmas.{all_coherent, all_tear_free, first_incoherent_same, not_broken, orders_same, read_known, source_known, torn_back, torn_same}
use Rattle.lit_why.proofs.refusals.refusal.Goals as goal

pub first_incoherent-requires-clause-reads : goal.first_incoherent-requires-clause-reads
first_incoherent-requires-clause-reads c =
    let events = part_events c.args.part.now in
    let is_list = rw c.combination-combination.ensures at c.byte_reads.ensures in
    rw (c.events-events.ensures.value, c.combination-combination.ensures) (read_known events c.byte_reads.result.now is_list)

pub first_incoherent-requires-clause-sources : goal.first_incoherent-requires-clause-sources
first_incoherent-requires-clause-sources c k w at =
    let part = c.args.part.now in
    rw (c.events-events.ensures.value, c.combination-combination.ensures)
    (source_known (part_events part) part.sources (c.len-len.ensures.all c.requires.complete) k w (rw c.requires.sources at at))

pub returns-in-Some-first_incoherent : goal.returns-in-Some-first_incoherent
returns-in-Some-first_incoherent c =
    let part = c.args.part.now in
    let events = part_events part in
    let before = Holds c.happens_before-before.result in
    let found = c.in-Some-first_incoherent.found in
    let is_list = rw c.combination-combination.ensures at c.byte_reads.ensures in
    let first = rw (c.events-events.ensures.value, c.combination-combination.ensures) at c.in-Some-first_incoherent.ensures in
    let both = first_incoherent_same part before (ReadsFrom events part.sources) c.happens_before-before.ensures.pairs (λ r w. ((λ h. h), (λ h. h))) c.byte_reads.result.now c.args.sources.now
    is_list c.requires.sources found.place found.read found.byte found.source found.cause first in
    (c.in_default.ensures, (λ e h. c.in_default-first_before_itself.ensures e ((c.happens_before-before.ensures.pairs e e).1 h)), both.0, both.1, both.2)

pub returns-in-Some-first_torn : goal.returns-in-Some-first_torn
returns-in-Some-first_torn c =
    let part = c.args.part.now in
    let events = part_events part in
    let before = Holds c.happens_before-before.result in
    let reads = Holds c.reads_from-reads.result in
    let found = c.in-Some-first_torn.found in
    let same = c.happens_before-before.ensures.pairs in
    let same_reads = c.reads_from-reads.ensures.pairs in
    let is_list = rw c.combination-combination.ensures at c.byte_reads.ensures in
    let each = rw (c.events-events.ensures.value, c.combination-combination.ensures) at c.in_default-first_incoherent.ensures in
    let torn = rw (c.events-events.ensures.value, c.combination-combination.ensures) at c.in-Some-first_torn.ensures in (
      c.in_default.ensures,
      (λ e h. c.in_default-first_before_itself.ensures e ((same e e).1 h)),
      all_coherent part before reads same same_reads c.byte_reads.result.now c.args.sources.now is_list c.requires.sources each,
      torn_same part before reads same same_reads found.read found.source found.other torn.0,
      (λ q u x other. torn.1 q u x (torn_back part before reads same same_reads q u x other)),
    )

pub returns-then-has_order : goal.returns-then-has_order
returns-then-has_order c =
    let part = c.args.part.now in
    let events = part_events part in
    let before = Holds c.happens_before-before.result in
    let reads = Holds c.reads_from-reads.result in
    let same = c.happens_before-before.ensures.pairs in
    let same_reads = c.reads_from-reads.ensures.pairs in
    let is_list = rw c.combination-combination.ensures at c.byte_reads.ensures in
    let each = rw (c.events-events.ensures.value, c.combination-combination.ensures) at c.in_default-first_incoherent.ensures in
    let none = rw (c.events-events.ensures.value, c.combination-combination.ensures) at c.in_default-first_torn.ensures in
    let coherent = all_coherent part before reads same same_reads c.byte_reads.result.now c.args.sources.now is_list c.requires.sources each in
    let tear_free = all_tear_free part before reads same same_reads none in
    let no_cycle : HasNoCycle part = λ e h. c.in_default-first_before_itself.ensures e ((same e e).1 h) in
    let whole = not_broken part c.in_default.ensures no_cycle coherent tear_free in
    let orders = orders_same part (rows_len c.happens_before-before.result) before (Forbids c.between.result) c.happens_before-before.ensures.len same c.between.ensures.triples in
    let litmus = rw (c.test.ensures, c.combination-combination.ensures) at c.agents-agents.ensures.litmus in
    (c.whole_parts_are_decided_by_orders.ensures part (record { litmus = litmus; known = c.requires.known }) (c.len-len.ensures.all c.requires.complete) whole).1 (orders.0 (c.if-has_order.ensures.0 refl))

pub returns-else-has_order : goal.returns-else-has_order
returns-else-has_order c =
    let part = c.args.part.now in
    let events = part_events part in
    let before = Holds c.happens_before-before.result in
    let reads = Holds c.reads_from-reads.result in
    let same = c.happens_before-before.ensures.pairs in
    let same_reads = c.reads_from-reads.ensures.pairs in
    let is_list = rw c.combination-combination.ensures at c.byte_reads.ensures in
    let each = rw (c.events-events.ensures.value, c.combination-combination.ensures) at c.in_default-first_incoherent.ensures in
    let none = rw (c.events-events.ensures.value, c.combination-combination.ensures) at c.in_default-first_torn.ensures in
    let orders = orders_same part (rows_len c.happens_before-before.result) before (Forbids c.between.result) c.happens_before-before.ensures.len same c.between.ensures.triples in (
      c.in_default.ensures,
      (λ e h. c.in_default-first_before_itself.ensures e ((same e e).1 h)),
      all_coherent part before reads same same_reads c.byte_reads.result.now c.args.sources.now is_list c.requires.sources each,
      all_tear_free part before reads same same_reads none,
      (λ order is. false≢true (c.if-has_order.ensures.1 (orders.1 (order, is)))),
    )
