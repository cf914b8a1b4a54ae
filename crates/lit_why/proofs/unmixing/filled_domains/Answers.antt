use Rattle.std.proofs.Common.{◌<◌, ◌≤◌, List, arith, length, length-set, subst, ◌∙◌}
use Rattle.std.proofs.lemmas.Option.{slice_get_within}
use Rattle.lit_paths.specs.ByteReads.{byte_reads}
use Rattle.lit_paths.specs.declared.event.Event.{Event}
use Rattle.lit_paths.specs.declared.limits.TheConstants.{BYTE_READ_LIMIT}
use Rattle.lit_solve.specs.Box.{events_on}
use Rattle.lit_solve.proofs.PruningLemmas.{as_many}
use Rattle.lit_why.specs.Internal.Unmixing.{TakesFilled}
use Rattle.lit_why.proofs.BoxLemmas.{first_more}
use Rattle.lit_why.proofs.unmixing.filled_domains.Goals as goal

pub loop-place-preserved : goal.loop-place-preserved
loop-place-preserved c =
    let p = c.args.combination.now in
    let events = events_on p in
    let place = c.loop-place.place in
    let all = as_many events c.byte_reads-place-end.result.now c.byte_reads-place-end.ensures in
    let few : length (byte_reads events) ≤ BYTE_READ_LIMIT = subst (λ (es : List Event). length (byte_reads es) ≤ BYTE_READ_LIMIT)
    c.events-events.ensures.value c.events-events.ensures.sound.few_reads in
    let inside : place < BYTE_READ_LIMIT = omega (arith, few, all, c.loop-place-test.true) in
    let was = c.loop-place.invariant in
    record {
      len = length-set c.loop-place.domains place c.domain_at.result ∙ was.len;
      each = first_more (byte_reads events) c.args.sources.now (TakesFilled events c.args.read c.args.filler) c.loop-place.domains place
          c.domain_at.result (omega (arith, inside, was.len)) was.each c.domain_at.ensures;
    }

pub returns : goal.returns
returns c k r b v w at at_source =
    let events = events_on c.args.combination.now in
    let all = as_many events c.byte_reads-place-end.result.now c.byte_reads-place-end.ensures in
    c.loop-place.invariant.each k r b v w
    (omega (arith, slice_get_within (byte_reads events) k (r, b) at, all, c.loop-place-test.false)) at at_source
