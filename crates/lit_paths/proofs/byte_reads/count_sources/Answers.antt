use Rattle.std.proofs.Common.{◌≤◌, ◌+◌, arith, mul-le-mul}
use Rattle.std.proofs.lemmas.Option.{slice_get-get_or}
use Rattle.lit_paths.specs.Internal.CandidateLists.{candidates_for}
use Rattle.lit_paths.proofs.Products.{count_step, product_bound}
use Rattle.lit_paths.proofs.byte_reads.count_sources.Goals as goal

pub returns-then-total-gt-CHOICE_LIMIT : goal.returns-then-total-gt-CHOICE_LIMIT
returns-then-total-gt-CHOICE_LIMIT c =
    let step = count_step (candidates_for c.args.events.now) c.args.reads.now c.loop-read.read-index _ _ _ c.loop-read-test.true c.loop-read.invariant.counted c.candidate_count-total.ensures.value in
    let bound = product_bound (candidates_for c.args.events.now) c.args.reads.now (c.loop-read.read-index + 1) c.requires.some in
    omega (arith, step, bound, c.if-total-gt-CHOICE_LIMIT.true)

pub loop-read-preserved : goal.loop-read-preserved
loop-read-preserved c =
    let here : 1 ≤ c.candidate_count-total.result =
    omega (arith, c.candidate_count-total.ensures.value, c.requires.some c.loop-read.read-index _ (slice_get-get_or c.args.reads.now c.loop-read.read-index (record { read = 0; byte = 0 }) c.loop-read-test.true)) in
    record {
      counted = count_step (candidates_for c.args.events.now) c.args.reads.now c.loop-read.read-index _ _ _ c.loop-read-test.true c.loop-read.invariant.counted c.candidate_count-total.ensures.value;
      some = omega (arith, mul-le-mul c.loop-read.invariant.some here);
      few = omega (arith, c.if-total-gt-CHOICE_LIMIT.false);
    }
