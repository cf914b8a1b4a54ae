use Rattle.std.proofs.Common.{◌≡◌, ◌<◌, arith, length}
use Rattle.lit_paths.specs.ByteReads.{byte_reads}
use Rattle.lit_solve.specs.Box.{box_with, events_on}
use Rattle.lit_solve.proofs.PruningLemmas.{source_known}
use Rattle.lit_why.proofs.TrialLemmas.{events_are, reads_len}
use Rattle.lit_why.proofs.enumeration.least_sources.Goals as goal

pub overflow_cast-source : goal.overflow_cast-source
overflow_cast-source c =
    let p = c.args.problem.now in
    let long = reads_len p c.combination-2.result.now c.byte_reads-place-end.result.now c.byte_reads-place-end.ensures
    c.combination-2.ensures in
    let sound = events_are p c.combination.result.now c.events-events.result.now c.events-events.ensures.value
    c.events-events.ensures.sound c.combination.ensures in
    let known : c.in-Some.source < length (events_on p) =
    source_known (box_with p c.args.domains.now) c.requires.is_box c.loop-place.place c.in-Some.source
    (omega (arith, c.loop-place-test.true, long)) c.in-Some.ensures.there in
    omega (arith, known, sound.few)

pub returns : goal.returns
returns c =
    let p = c.args.problem.now in
    let long = reads_len p c.combination-2.result.now c.byte_reads-place-end.result.now c.byte_reads-place-end.ensures
    c.combination-2.ensures in
    record {
      sourced = record {
        one_each = let e : length c.loop-place.sources.items ≡ length (byte_reads (events_on p)) =
            omega (arith, c.loop-place.invariant.count, long, c.loop-place-test.false, c.loop-place.auto.place-end) in e;
        each = λ i r b w at source. c.requires.is_box.candidates i r b w at (c.loop-place.invariant.within i w source);
      };
      within = c.loop-place.invariant.within;
    }
