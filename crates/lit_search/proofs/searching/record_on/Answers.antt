use Rattle.lit_search.proofs.Words.{arith, boxes_len, Gains, IsOfFirst, subst, ℕ, ◌≡◌}
use Rattle.lit_search.proofs.BoxedLemmas.{gained_all, gained_more, of_none}
use Rattle.lit_search.proofs.GainLemmas.{gains_none, goes_more}
use Rattle.lit_search.proofs.searching.record_on.Goals as goal

pub loop-place-init : goal.loop-place-init
loop-place-init g c =
    let t = c.args.problem.now.0 in
    gains_none t (λ n. IsOfFirst t c.boxes_of-boxes.result c.args.from c.args.to 0 n) c.args.table.now c.args.raced
    (of_none t c.boxes_of-boxes.result c.args.from c.args.to 0)

pub loop-place-preserved : goal.loop-place-preserved
loop-place-preserved g c =
    gained_more c.laws_below.ensures c.args.problem.now c.args.from c.args.to c.boxes_of-boxes.result c.boxes_of-boxes.ensures
    c.loop-place.place (omega (arith, c.loop-place-test.true, c.len-place-end.ensures)) c.put.new.domains c.put.ensures.exact
    c.args.table.now c.loop-place.table c.outcomes_and_race.new.table c.args.raced c.loop-place.race c.in_ok-race.race
    c.loop-place.invariant c.outcomes_and_race.ensures.added c.in_ok-race.ensures.whole c.in_ok-race.ensures.race

pub returns-in_err-race-clause-goes_on : goal.returns-in_err-race-clause-goes_on
returns-in_err-race-clause-goes_on g c =
    goes_more c.args.table.now c.loop-place.table c.outcomes_and_race.new.table c.loop-place.invariant.goes_on
    (record { added = c.outcomes_and_race.ensures.added.added; is = c.outcomes_and_race.ensures.added.goes_on })

pub returns-clause-gains : goal.returns-clause-gains
returns-clause-gains g c =
    let p = c.args.problem.now in
    let boxes = c.boxes_of-boxes.result in
    gained_all c.laws_below.ensures p c.args.from c.args.to boxes c.boxes_of-boxes.ensures c.args.table.now c.loop-place.table c.args.raced c.loop-place.race
    (subst (λ (k : ℕ). Gains p.0 (λ n. IsOfFirst p.0 boxes c.args.from c.args.to k n) c.args.table.now c.loop-place.table c.args.raced c.loop-place.race)
    (let e : c.loop-place.place ≡ boxes_len boxes = omega (arith, c.len-place-end.ensures, c.loop-place-test.false, c.loop-place.auto.place-end) in e)
    c.loop-place.invariant)
