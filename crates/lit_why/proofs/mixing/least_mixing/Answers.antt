use Rattle.std.proofs.Common.{◌≤◌, length, arith}
use Rattle.std.proofs.lemmas.Option.{slice_get_within}
use Rattle.lit_paths.specs.Choice.{choices_of, combinations_of}
use Rattle.lit_why.proofs.MixingLemmas.{none_at_all, none_more}
use Rattle.lit_why.proofs.mixing.least_mixing.Goals as goal

pub returns-in-Some : goal.returns-in-Some
returns-in-Some c =
    record {
      shown = record { combination = c.loop-combination.combination; is_shown = c.in-Some.ensures; first = c.loop-combination.invariant };
      known = slice_get_within (choices_of c.args.plan.now) c.in-Some.shown.choice c.in-Some.ensures.on.has.choice c.in-Some.ensures.on.has.listed;
    }

pub loop-combination-preserved : goal.loop-combination-preserved
loop-combination-preserved c =
    none_more c.args.plan.now c.args.goal c.loop-combination.combination c.loop-combination.invariant c.in_default.ensures

pub returns : goal.returns
returns c =
    let past : length (combinations_of c.args.plan.now) ≤ c.loop-combination.combination =
    omega (arith, c.combinations-combination-end.ensures.value, c.loop-combination-test.false) in
    record { shown = none_at_all c.args.plan.now c.args.goal c.loop-combination.combination past c.loop-combination.invariant; known = tt }
