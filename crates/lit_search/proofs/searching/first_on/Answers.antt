use Rattle.lit_search.proofs.Words.{arith, box_with, subst, ℕ}
use Rattle.lit_solve.proofs.CompletionLemmas.{sourced}
use Rattle.lit_search.specs.Internal.Boxed.{HasNoneBefore}
use Rattle.lit_search.proofs.BoxedLemmas.{first_found, none_at_all, none_more, of_none}
use Rattle.lit_search.proofs.searching.first_on.Goals as goal

pub loop-i-init : goal.loop-i-init
loop-i-init c n of = absurd (of_none c.args.problem.now.0 c.boxes_of-boxes.result c.args.from c.args.to 0 n of)

pub number_of-requires : goal.number_of-requires
number_of-requires c =
    let least = c.in-Some.ensures in
    let box = box_with c.args.problem.now c.put.new.domains in
    rw (c.combination.ensures, c.as_slice.ensures.value, ← least.same) (sourced box least.execution least.solves.completes)

pub returns-in-Some : goal.returns-in-Some
returns-in-Some c =
    let same = c.combination.ensures in
    let n = c.number_of.result in
    first_found c.laws_below.ensures c.args.problem.now c.args.from c.args.to c.boxes_of-boxes.result c.boxes_of-boxes.ensures
    c.loop-i.i (omega (arith, c.loop-i-test.true, c.len-i-end.ensures)) c.put.new.domains c.put.ensures.exact c.args.class
    n c.in-Some.least.sources.items c.in-Some.least.order.items c.loop-i.invariant c.in-Some.ensures
    (rw same at c.number_of.ensures.low) (rw same at c.number_of.ensures.high)
    (rw (same, c.as_slice.ensures.value) at c.number_of.ensures.has)

pub loop-i-preserved : goal.loop-i-preserved
loop-i-preserved c =
    none_more c.laws_below.ensures c.args.problem.now c.args.from c.args.to c.boxes_of-boxes.result c.boxes_of-boxes.ensures
    c.loop-i.i (omega (arith, c.loop-i-test.true, c.len-i-end.ensures)) c.put.new.domains c.put.ensures.exact c.args.class
    c.loop-i.invariant c.in_default.ensures

pub returns : goal.returns
returns c =
    none_at_all c.laws_below.ensures c.args.problem.now c.args.from c.args.to c.boxes_of-boxes.result c.boxes_of-boxes.ensures c.args.class
    (subst (λ (n : ℕ). HasNoneBefore c.args.problem.now.0 c.boxes_of-boxes.result c.args.class c.args.from c.args.to n)
    (omega (arith, c.len-i-end.ensures, c.loop-i-test.false, c.loop-i.auto.i-end)) c.loop-i.invariant)
