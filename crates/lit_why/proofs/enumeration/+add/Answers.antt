use Rattle.std.proofs.Common.{◌≡◌, ◌↔◌, ◌+◌, ◌-◌, ◌<◌, ◌≤◌, ℕ, arith, inl, inr, length, subst}
use Rattle.std.specs.Prelude.{slice_index_or}
use Rattle.lit_paths.specs.ByteReads.{byte_reads}
use Rattle.lit_paths.specs.declared.limits.TheConstants.{BYTE_READ_LIMIT}
use Rattle.lit_rel.specs.EventSet.{HasEvent, no_events}
use Rattle.lit_rel.proofs.SetLemmas.{split_less}
use Rattle.lit_solve.specs.Box.{box_with, events_on}
use Rattle.lit_solve.proofs.PruningLemmas.{source_known}
use Rattle.lit_why.specs.Internal.Trials.{MayTry, TriesIn}
use Rattle.lit_why.proofs.AddedLemmas.{adds_none, adds_same}
use Rattle.lit_why.proofs.NodeLemmas.{TriesPast, adds_past, all_left, all_past, fewer_left, next_node, none_past, on_sourced}
use Rattle.lit_why.proofs.TrialLemmas.{events_are, reads_len}
use Rattle.lit_why.proofs.enumeration.+add.Goals.{then-len-most-via-then-len-most, then-len-most-via-else-len-most+then-not-can_try}
use Rattle.lit_why.proofs.enumeration.+add.Goals as goal

pub returns-then-len-most : goal.returns-then-len-most
returns-then-len-most t c =
    let p = c.args.problem.now in
    let box = box_with p c.args.domains.now in
    let old = c.args.attempts.now.items in
    elim c.then-len-most.branch [
      | then-len-most-via-then-len-most w ↦
          adds_none p.0 c.args.most (TriesIn box c.args.class) old c.requires.few (λ n is.
          (let e : length old ≡ c.args.most = omega (arith, c.len.ensures, w.if-len-most.true) in e))
      | then-len-most-via-else-len-most+then-not-can_try w ↦
          adds_none p.0 c.args.most (TriesIn box c.args.class) old c.requires.few (λ n is.
          absurd (subst (MayTry box c.args.class) w.if-not-can_try.true w.can_try.ensures is.sources
          (record { sourced = on_sourced c.laws_below.ensures p.0 n p.1 is.sources is.on; within = is.lies }) is.is_try))
    ]

pub loop-source-init : goal.loop-source-init
loop-source-init t c =
    let p = c.args.problem.now in
    let box = box_with p c.args.domains.now in
    let long = reads_len p c.combination-2.result.now c.byte_reads.result.now c.byte_reads.ensures c.combination-2.ensures in
    let inside : c.args.place < length (byte_reads (events_on p)) = omega
    (arith, c.requires.node.within, long, c.if-place-byte_reads.false) in
    let left = slice_index_or c.args.domains.now c.args.place no_events in
    let same : (w : ℕ) → HasEvent left w ↔ HasEvent left w = λ w. (λ h. h, λ h. h) in
    record {
      left = all_left c.laws_below.ensures box c.args.class c.args.place inside left same;
      adds = adds_none p.0 c.args.most (TriesPast box c.args.class c.args.place left) c.args.attempts.now.items c.requires.few
          (λ n past. absurd (none_past c.laws_below.ensures box c.args.class c.args.place inside left same n past));
    }

pub with-requires : goal.with-requires
with-requires t c =
    let p = c.args.problem.now in
    let box = box_with p c.args.domains.now in
    let long = reads_len p c.combination-2.result.now c.byte_reads.result.now c.byte_reads.ensures c.combination-2.ensures in
    let inside : c.args.place < length (byte_reads (events_on p)) = omega
    (arith, c.requires.node.within, long, c.if-place-byte_reads.false) in
    let sound = events_are p c.combination.result.now c.events-events.result.now c.events-events.ensures.value
    c.events-events.ensures.sound c.combination.ensures in
    let known = source_known box c.requires.node.is_box c.args.place c.in-Some.source inside
    (c.loop-source.invariant.left.within c.in-Some.source c.in-Some.ensures.there) in
    omega (arith, known, sound.few)

pub add-requires : goal.add-requires
add-requires t c =
    let p = c.args.problem.now in
    let box = box_with p c.args.domains.now in
    let place = c.args.place in
    let long = reads_len p c.combination-2.result.now c.byte_reads.result.now c.byte_reads.ensures c.combination-2.ensures in
    let inside : place < length (byte_reads (events_on p)) = omega (arith, c.requires.node.within, long, c.if-place-byte_reads.false) in
    let sound = events_are p c.combination.result.now c.events-events.result.now c.events-events.ensures.value
    c.events-events.ensures.sound c.combination.ensures in
    let few : length (byte_reads (events_on p)) ≤ BYTE_READ_LIMIT = sound.few_reads in
    let room : place < length box.domains = omega (arith, few, inside, c.told-domains) in
    let only : (w : ℕ) → HasEvent c.with.result w ↔ (w ≡ c.in-Some.source) = λ w. (
      λ h. elim ((c.with.ensures w).0 h) [ inl e ↦ absurd (c.new.ensures.empty w e) | inr is ↦ is ],
      λ is. (c.with.ensures w).1 (inr is),
    ) in (
      subst (λ (n : ℕ). length (byte_reads (events_on p)) - (place + 1) < n) c.decreases (omega (arith, inside)),
      (
        c.requires.plan,
        (
          next_node c.laws_below.ensures box c.args.class place inside room c.loop-source.left c.in-Some.others c.with.result
              c.in-Some.source
              c.in-Some.ensures c.loop-source.invariant.left only c.requires.node,
          c.loop-source.invariant.adds.few,
        ),
      ),
    )

pub loop-source-smaller : goal.loop-source-smaller
loop-source-smaller t c = split_less c.loop-source.left c.in-Some.source c.in-Some.others c.in-Some.ensures

pub loop-source-preserved : goal.loop-source-preserved
loop-source-preserved t c =
    let p = c.args.problem.now in
    let box = box_with p c.args.domains.now in
    let place = c.args.place in
    let long = reads_len p c.combination-2.result.now c.byte_reads.result.now c.byte_reads.ensures c.combination-2.ensures in
    let inside : place < length (byte_reads (events_on p)) = omega (arith, c.requires.node.within, long, c.if-place-byte_reads.false) in
    let sound = events_are p c.combination.result.now c.events-events.result.now c.events-events.ensures.value
    c.events-events.ensures.sound c.combination.ensures in
    let few : length (byte_reads (events_on p)) ≤ BYTE_READ_LIMIT = sound.few_reads in
    let room : place < length box.domains = omega (arith, few, inside, c.told-domains) in
    let only : (w : ℕ) → HasEvent c.with.result w ↔ (w ≡ c.in-Some.source) = λ w. (
      λ h. elim ((c.with.ensures w).0 h) [ inl e ↦ absurd (c.new.ensures.empty w e) | inr is ↦ is ],
      λ is. (c.with.ensures w).1 (inr is),
    ) in record {
      left = fewer_left c.laws_below.ensures box c.args.class place inside c.loop-source.left c.in-Some.others c.in-Some.source
          c.in-Some.ensures
          c.loop-source.invariant.left;
      adds = adds_past c.laws_below.ensures box c.args.class place inside room c.loop-source.left c.in-Some.others c.with.result
          c.in-Some.source
          c.in-Some.ensures c.loop-source.invariant.left only c.args.most c.args.attempts.now.items c.loop-source.attempts.items
          c.add.new.attempts.items c.requires.node c.loop-source.invariant.adds c.in_ok-add.ensures;
    }

pub returns : goal.returns
returns t c =
    let p = c.args.problem.now in
    let box = box_with p c.args.domains.now in
    let long = reads_len p c.combination-2.result.now c.byte_reads.result.now c.byte_reads.ensures c.combination-2.ensures in
    let inside : c.args.place < length (byte_reads (events_on p)) = omega
    (arith, c.requires.node.within, long, c.if-place-byte_reads.false) in
    adds_same p.0 c.args.most (TriesPast box c.args.class c.args.place c.loop-source.left)
    (TriesIn box c.args.class) c.args.attempts.now.items
    c.loop-source.attempts.items (all_past c.laws_below.ensures box c.args.class c.args.place inside c.loop-source.left
    c.in_default.ensures)
    c.loop-source.invariant.adds
