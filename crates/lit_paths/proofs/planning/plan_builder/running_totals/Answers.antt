use Rattle.std.proofs.Common.{◌≡◌, ◌+◌, ℕ, List, [], ◌∷◌, ◌++◌, arith, ap, sym, ◌∙◌, inr, refl, length}
use Rattle.std.proofs.lemmas.List.FromFn.{map-range_with_len_more}
use Rattle.lit_paths.specs.Choice.{combinations_of}
use Rattle.lit_paths.specs.Plan.{choices_before}
use Rattle.lit_paths.specs.Internal.Totals.{totals_below}
use Rattle.lit_paths.proofs.CombinedPaths.{count_of-combinations}
use Rattle.lit_paths.proofs.Totals.{before_more, before_le, before_all}
use Rattle.lit_paths.proofs.planning.plan_builder.running_totals.Goals as goal

pub loop-combination-init : goal.loop-combination-init
loop-combination-init c = record { listed = c.in_ok-totals.ensures.items; counted = refl; few = omega arith }

pub choice_count-requires : goal.choice_count-requires
choice_count-requires c = omega (arith, c.loop-combination-test.true, c.combinations-count.ensures.value, c.combinations-count.ensures.limits.short.few)

pub returns-in_default-clause-many : goal.returns-in_default-clause-many
returns-in_default-clause-many c =
    inr (refl, omega (arith, c.in_default.ensures, before_more c.args.paths.now c.loop-combination.combination (omega (arith, c.loop-combination-test.true, c.combinations-count.ensures.value, c.combinations-count.ensures.limits.short.few, count_of-combinations c.args.paths.now)), before_le c.args.paths.now (c.loop-combination.combination + 1)))

pub returns-then-total-gt-CHOICE_LIMIT-clause-many : goal.returns-then-total-gt-CHOICE_LIMIT-clause-many
returns-then-total-gt-CHOICE_LIMIT-clause-many c =
    inr (
      refl,
      omega (
        arith,
        c.if-total-gt-CHOICE_LIMIT.true,
        c.in-Some.ensures.0,
        c.loop-combination.invariant.counted,
        before_more c.args.paths.now c.loop-combination.combination (omega (arith, c.loop-combination-test.true, c.combinations-count.ensures.value, c.combinations-count.ensures.limits.short.few, count_of-combinations c.args.paths.now)),
        before_le c.args.paths.now (c.loop-combination.combination + 1),
      ),
    )

pub loop-combination-preserved : goal.loop-combination-preserved
loop-combination-preserved c =
    let counted : c.loop-combination.total + c.in-Some.choices ≡ choices_before c.args.paths.now (c.loop-combination.combination + 1) =
    omega (arith, c.in-Some.ensures.0, c.loop-combination.invariant.counted, before_more c.args.paths.now c.loop-combination.combination (omega (arith, c.loop-combination-test.true, c.combinations-count.ensures.value, c.combinations-count.ensures.limits.short.few, count_of-combinations c.args.paths.now))) in
    record {
      listed = c.in_ok-push.ensures.items
          ∙ ap (λ (ns : List ℕ). ns ++ (c.loop-combination.total + c.in-Some.choices) ∷ []) c.loop-combination.invariant.listed
          ∙ ap (λ n. totals_below c.args.paths.now c.loop-combination.combination ++ n ∷ []) counted
          ∙ sym (map-range_with_len_more (λ k. choices_before c.args.paths.now (k + 1)) 0 c.loop-combination.combination c.loop-combination.combination (omega arith));
      counted = counted;
      few = omega (arith, c.if-total-gt-CHOICE_LIMIT.false);
    }

pub returns-clause-totals : goal.returns-clause-totals
returns-clause-totals c =
    c.loop-combination.invariant.listed
    ∙ ap (totals_below c.args.paths.now)
    (let e : c.loop-combination.combination ≡ length (combinations_of c.args.paths.now) =
    omega (arith, c.loop-combination-test.false, c.loop-combination.auto.combination-end, c.combinations-count.ensures.value, c.combinations-count.ensures.limits.short.few, count_of-combinations c.args.paths.now) in e)

pub returns-clause-few : goal.returns-clause-few
returns-clause-few c =
    omega (
      arith,
      c.loop-combination.invariant.counted,
      c.loop-combination.invariant.few,
      before_all c.args.paths.now c.loop-combination.combination
          (omega (arith, c.loop-combination-test.false, c.combinations-count.ensures.value, c.combinations-count.ensures.limits.short.few, count_of-combinations c.args.paths.now)),
    )
