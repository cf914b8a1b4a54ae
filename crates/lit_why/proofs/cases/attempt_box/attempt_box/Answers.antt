use Rattle.std.proofs.Common.{◌<◌, ◌≤◌, ℕ, List, arith, get_or, length, length-set, subst, ◌∙◌}
use Rattle.std.specs.Prelude.{IsTrue}
use Rattle.std.proofs.lemmas.Option.{slice_get-get_or, slice_get_within}
use Rattle.lit_paths.specs.ByteReads.{byte_read_at, byte_reads}
use Rattle.lit_paths.specs.Members.{IsCandidate}
use Rattle.lit_paths.specs.declared.event.Event.{Event}
use Rattle.lit_paths.specs.declared.limits.TheConstants.{BYTE_READ_LIMIT}
use Rattle.lit_solve.specs.Box.{events_on}
use Rattle.lit_solve.proofs.PruningLemmas.{as_many, read_here}
use Rattle.lit_why.specs.Asked.{is_asked}
use Rattle.lit_why.specs.Attempts.{agree}
use Rattle.lit_why.proofs.BoxLemmas.{first_more}
use Rattle.lit_why.proofs.cases.attempt_box.attempt_box.Goals as goal

pub sources_at-requires-clause-source : goal.sources_at-requires-clause-source
sources_at-requires-clause-source c =
    let events = events_on c.args.combination.now in
    let place = c.loop-place.place in
    let all = as_many events c.byte_reads-place-end.result.now c.byte_reads-place-end.ensures in
    let inside : place < length (byte_reads events) = omega (arith, all, c.loop-place-test.true) in
    let at : place < length c.args.sources.now = omega (arith, inside, c.requires.sourced.one_each) in
    let read = byte_read_at events place in
    let known = (c.requires.sourced.each place read.0 read.1 (get_or c.args.sources.now place 0) (read_here events place inside)
    (slice_get-get_or c.args.sources.now place 0 at)).known in
    omega (arith, known, c.from.ensures)

pub loop-place-preserved : goal.loop-place-preserved
loop-place-preserved c =
    let p = c.args.combination.now in
    let events = events_on p in
    let place = c.loop-place.place in
    let all = as_many events c.byte_reads-place-end.result.now c.byte_reads-place-end.ensures in
    let few : length (byte_reads events) ≤ BYTE_READ_LIMIT = subst (λ (es : List Event). length (byte_reads es) ≤ BYTE_READ_LIMIT)
    c.events-events.ensures.value c.events-events.ensures.sound.few_reads in
    let inside : place < BYTE_READ_LIMIT = omega (arith, few, all, c.loop-place-test.true) in
    let was = c.loop-place.invariant in
    let Is : ℕ × ℕ → ℕ → ℕ → Type 0 = λ q v w. IsCandidate events q.0 q.1 w × IsTrue (agree (is_asked p.0 p.1 q.0) events q.1 v w) in
    record {
      len = length-set c.loop-place.domains place c.sources_at.result ∙ was.len;
      each = first_more (byte_reads events) c.args.sources.now Is c.loop-place.domains place c.sources_at.result
          (omega (arith, inside, was.len)) was.each (rw c.from.ensures at c.sources_at.ensures);
    }

pub returns : goal.returns
returns c k r b v w at at_source =
    let events = events_on c.args.combination.now in
    let all = as_many events c.byte_reads-place-end.result.now c.byte_reads-place-end.ensures in
    c.loop-place.invariant.each k r b v w
    (omega (arith, slice_get_within (byte_reads events) k (r, b) at, all, c.loop-place-test.false)) at at_source
