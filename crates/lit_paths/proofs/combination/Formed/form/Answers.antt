use Rattle.std.proofs.Common.{List, arith, ap, ap₂, ◌∙◌, length, subst, sym}
use Rattle.lit_paths.specs.declared.event.Event.{Event}
use Rattle.lit_paths.specs.Plan.{AreEventsIn}
use Rattle.lit_paths.specs.ByteReads.{byte_reads}
use Rattle.lit_paths.specs.Choice.{product, sources_of}
use Rattle.lit_paths.specs.Internal.CandidateLists.{candidate_lists, ways_after}
use Rattle.lit_paths.proofs.CombinedPaths.{count_of-combinations}
use Rattle.lit_paths.proofs.Totals.{before_more, few_candidates, some_choice}
use Rattle.lit_paths.proofs.WaySteps.{candidate_lists-known}
use Rattle.lit_paths.proofs.combination.Formed.form.Goals as goal

pub join-requires : goal.join-requires
join-requires c = omega (arith, c.requires.known, count_of-combinations c.args.paths.now)

pub find_ways-requires-clause-fit : goal.find_ways-requires-clause-fit
find_ways-requires-clause-fit c = λ i read at. few_candidates c.args.paths.now.bytes _ read (subst (λ (es : List Event). AreEventsIn c.args.paths.now.bytes es) (sym c.as_slice-events.ensures.value) c.join.ensures.sound)

pub find_ways-requires-clause-whole : goal.find_ways-requires-clause-whole
find_ways-requires-clause-whole c =
    let reads = c.find_byte_reads.ensures ∙ ap byte_reads c.as_slice-events.ensures.value in
    omega (
      arith,
      c.requires.whole,
      before_more c.args.paths.now c.args.number c.requires.known,
      ap (λ es. length (sources_of es)) c.join.ensures.combination_paths.events,
      ap (λ ws. length ws) (candidate_lists-known c.join.new.combination_paths.events.items c.find_byte_reads.new.reads.items reads),
      ap₂ (λ es rs. length (product (candidate_lists es rs))) c.as_slice-events.ensures.value c.as_slice.ensures.value,
    )

pub find_ways-requires-clause-some : goal.find_ways-requires-clause-some
find_ways-requires-clause-some c =
    omega (
      arith,
      c.requires.whole,
      before_more c.args.paths.now c.args.number c.requires.known,
      ap (λ es. length (sources_of es)) c.join.ensures.combination_paths.events,
      some_choice c.args.paths.now.bytes c.join.new.combination_paths.events.items c.join.ensures.sound,
    )

pub returns : goal.returns
returns c =
    let reads = c.find_byte_reads.ensures ∙ ap byte_reads c.as_slice-events.ensures.value in
    let same = ap₂ candidate_lists c.as_slice-events.ensures.value c.as_slice.ensures.value in
    record {
      combination_paths = c.join.ensures.combination_paths;
      sound = c.join.ensures.sound;
      all_reads = reads;
      all_candidates = c.find_ways.ensures.candidates ∙ same;
      all_later = c.find_ways.ensures.later ∙ ap ways_after same;
      whole = omega (
        arith,
        c.requires.whole,
        before_more c.args.paths.now c.args.number c.requires.known,
        ap (λ es. length (sources_of es)) c.join.ensures.combination_paths.events,
        ap (λ ws. length ws) (candidate_lists-known c.join.new.combination_paths.events.items c.find_byte_reads.new.reads.items reads),
      );
    }
