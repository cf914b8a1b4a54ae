use Rattle.lit_solve.proofs.Words.{◌<◌, ◌∙◌, ◌≤◌, arith, BYTE_READ_LIMIT, byte_reads, Event, events_on, IsCandidate}
use Rattle.lit_solve.proofs.Words.{length, length-set, List, slice_get_within, subst}
use Rattle.lit_solve.proofs.CandidateLemmas.{sets_more}
use Rattle.lit_solve.proofs.PruningLemmas.{as_many}
use Rattle.lit_solve.proofs.problem.put_candidates.Goals as goal

pub candidates_of-requires : goal.candidates_of-requires
candidates_of-requires c =
    let all = as_many (events_on c.args.combination.now) c.byte_reads-place-end.result.now c.byte_reads-place-end.ensures in
    omega (arith, c.loop-place-test.true, all)

pub loop-place-preserved : goal.loop-place-preserved
loop-place-preserved c =
    let events = events_on c.args.combination.now in
    let place = c.loop-place.place in
    let all = as_many events c.byte_reads-place-end.result.now c.byte_reads-place-end.ensures in
    let few : length (byte_reads events) ≤ BYTE_READ_LIMIT = subst (λ (es : List Event). length (byte_reads es) ≤ BYTE_READ_LIMIT)
    c.events-events.ensures.value c.events-events.ensures.sound.few_reads in
    let inside : place < BYTE_READ_LIMIT = omega (arith, few, all, c.loop-place-test.true) in
    let was = c.loop-place.invariant in record {
      len = length-set c.loop-place.candidates place c.candidates_of.result ∙ was.len;
      all = sets_more (byte_reads events) (λ p w. IsCandidate events p.0 p.1 w) c.loop-place.candidates place c.candidates_of.result
          (omega (arith, inside, was.len)) was.all c.candidates_of.ensures;
    }

pub returns : goal.returns
returns c k r b w at =
    let events = events_on c.args.combination.now in
    let all = as_many events c.byte_reads-place-end.result.now c.byte_reads-place-end.ensures in
    c.loop-place.invariant.all k r b w
    (omega (arith, slice_get_within (byte_reads events) k (r, b) at, all, c.loop-place-test.false)) at
