use Rattle.std.proofs.Common.{◌≡◌, ℕ, ◌<◌, ◌≤◌, List, Some, length, take, get_or, sym, ap, ◌∙◌, subst, arith}
use Rattle.std.proofs.lemmas.List.{length-take-le, take_all}
use Rattle.std.proofs.lemmas.Option.{slice_get-get_or}
use Rattle.std.specs.List.{slice_get}
use Rattle.lit_syntax.specs.Syntax.{Litmus}
use Rattle.lit_paths.specs.ByteReads.{byte_reads}
use Rattle.lit_paths.specs.Members.{AreSources}
use Rattle.lit_paths.specs.Plan.{events_in}
use Rattle.lit_rel.specs.Part.{IsNextSource, PartModel, part_events}
use Rattle.lit_rel_tests.proofs.rel.part_of.Goals as goal

next_source : (part : PartModel) (sources : List ℕ) → AreSources (part_events part) sources → (i d : ℕ) → part.sources ≡ take i sources → i < length sources → IsNextSource part (get_or sources i d)
next_source part sources are i d given within =
    let reads = byte_reads (part_events part) in
    let count : length sources ≡ length reads = are.one_each in
    let q : ℕ × ℕ = get_or reads i (0, 0) in
    let below : i < length reads = omega arith in
    let at_read : slice_get reads i ≡ Some q = slice_get-get_or reads i (0, 0) below in
    let at_source : slice_get sources i ≡ Some (get_or sources i d) = slice_get-get_or sources i d within in
    let few : i ≤ length sources = omega arith in
    let place : length part.sources ≡ i = ap length given ∙ length-take-le i sources few in
    record {
      read = q.0;
      byte = q.1;
      left = ap (slice_get reads) place ∙ at_read;
      candidate = are.each i q.0 q.1 (get_or sources i d) at_read at_source;
    }

-- the sources of the choice are sources of the part's events
sourced : (t : Litmus) (c : ℕ) (entered : Litmus × ℕ) → entered ≡ (t, c) → (sources items : List ℕ) → items ≡ sources → AreSources (events_in entered.0 entered.1) sources → (part : PartModel) (given : List ℕ) → part ≡ record { test = t; combination = c; sources = given } → AreSources (part_events part) items
sourced t c entered same sources items are_items are part given is =
    subst (λ (p : PartModel). AreSources (part_events p) items) (sym is)
    (subst (λ (x : Litmus × ℕ). AreSources (events_in x.0 x.1) items) same (subst (AreSources (events_in entered.0 entered.1)) (sym are_items) are))

pub push-requires : goal.push-requires
push-requires c =
    let items = c.as_slice-source-items.result.now in
    let i = c.loop-source.source-index in
    let part = c.loop-source.part in
    next_source part items (sourced c.args.plan.now c.args.combination c.enter.result c.enter.ensures c.sources-sources.result.items items c.as_slice-source-items.ensures.value c.sources-sources.ensures.sourced part (take i items) c.loop-source.invariant)
    i 0 (ap (λ (p : PartModel). p.sources) c.loop-source.invariant) c.loop-source-test.true

pub returns-clause-complete : goal.returns-clause-complete
returns-clause-complete c =
    let items = c.as_slice-source-items.result.now in
    let i = c.loop-source.source-index in
    let part = c.loop-source.part in
    let are = sourced c.args.plan.now c.args.combination c.enter.result c.enter.ensures c.sources-sources.result.items items c.as_slice-source-items.ensures.value c.sources-sources.ensures.sourced part (take i items) c.loop-source.invariant in
    ap (λ (p : PartModel). length p.sources) c.loop-source.invariant ∙ ap length (take_all i items c.loop-source-test.false) ∙ are.one_each
