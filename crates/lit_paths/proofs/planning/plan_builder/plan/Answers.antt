use Rattle.std.proofs.Common.{arith, rules, ◌≡◌, ◌⊎◌, ◌<◌, subst, length, refl, inl}
use Rattle.std.specs.Prelude.{IfErr}
use Rattle.std.proofs.lemmas.Result.{IfErr-weaker}
use Rattle.std.proofs.lemmas.Bool.{false≢true}
use Rattle.lit_syntax.specs.Syntax.{Litmus}
use Rattle.lit_paths.specs.declared.limits.TheConstants.{ACCESS_LIMIT, CHOICE_LIMIT}
use Rattle.lit_paths.specs.declared.fault.PlanFault.TheVariants.{OutOfMemory, TooManyChoices}
use Rattle.lit_paths.specs.Choice.{choices_of}
use Rattle.lit_paths.specs.Plan.{IsPlanFault}
use Rattle.lit_paths.specs.Internal.Walks.{longest_of}
use Rattle.lit_paths.proofs.CombinedPaths.{count_of-combinations}
use Rattle.lit_paths.proofs.PlanBuilderSteps.{too_many_events, few_events, not_more, made_fault}
use Rattle.lit_paths.proofs.planning.plan_builder.plan.Goals as goal

pub returns-then-has_too_many_events-clause-refused : goal.returns-then-has_too_many_events-clause-refused
returns-then-has_too_many_events-clause-refused c = too_many_events c.args.test.now (c.if-has_too_many_events.ensures.0 refl)

pub returns-then-combination_count-gt-COMBINATION_LIMIT-clause-refused : goal.returns-then-combination_count-gt-COMBINATION_LIMIT-clause-refused
returns-then-combination_count-gt-COMBINATION_LIMIT-clause-refused c = (
  few_events c.args.test.now (not_more ACCESS_LIMIT (longest_of c.args.test.now.agents) (λ more. false≢true (c.if-has_too_many_events.ensures.1 more))),
  omega (arith, c.if-combination_count-gt-COMBINATION_LIMIT.true, c.combination_count.ensures.value, count_of-combinations c.args.test.now),
)

pub new-requires : goal.new-requires
new-requires c = record {
  litmus = c.combination_count.ensures.litmus;
  short = record { short = (not_more ACCESS_LIMIT (longest_of c.args.test.now.agents) (λ more. false≢true (c.if-has_too_many_events.ensures.1 more))); few = (omega (arith, c.if-combination_count-gt-COMBINATION_LIMIT.false, c.combination_count.ensures.value)) };
}

pub returns-clause-few_events : goal.returns-clause-few_events
returns-clause-few_events c = few_events c.args.test.now (not_more ACCESS_LIMIT (longest_of c.args.test.now.agents) (λ more. false≢true (c.if-has_too_many_events.ensures.1 more)))

pub returns-clause-few_paths : goal.returns-clause-few_paths
returns-clause-few_paths c = omega (arith, c.if-combination_count-gt-COMBINATION_LIMIT.false, c.combination_count.ensures.value, count_of-combinations c.args.test.now)

pub returns-in_err-paths-clause-refused : goal.returns-in_err-paths-clause-refused
returns-in_err-paths-clause-refused c =
    let memory : IfErr c.from_residual.result (λ e. e ≡ OutOfMemory) = search rules in
    IfErr-weaker c.from_residual.result (λ e. e ≡ OutOfMemory) (λ e. IsPlanFault c.args.test.now e)
    (λ e is.
    made_fault c.args.test.now e (not_more ACCESS_LIMIT (longest_of c.args.test.now.agents) (λ more. false≢true (c.if-has_too_many_events.ensures.1 more)))
    (omega (arith, c.if-combination_count-gt-COMBINATION_LIMIT.false, c.combination_count.ensures.value, count_of-combinations c.args.test.now)) (inl is))
    memory

pub returns-in-Err-clause-refused : goal.returns-in-Err-clause-refused
returns-in-Err-clause-refused c =
    made_fault c.args.test.now c.in-Err.fault (not_more ACCESS_LIMIT (longest_of c.args.test.now.agents) (λ more. false≢true (c.if-has_too_many_events.ensures.1 more)))
    (omega (arith, c.if-combination_count-gt-COMBINATION_LIMIT.false, c.combination_count.ensures.value, count_of-combinations c.args.test.now))
    (subst (λ (t : Litmus). (c.in-Err.fault ≡ OutOfMemory) ⊎ ((c.in-Err.fault ≡ TooManyChoices) × (CHOICE_LIMIT < length (choices_of t)))) c.in_ok-paths.ensures c.in-Err.ensures.many)
