use Rattle.std.proofs.Common.{◌≤◌, ℕ, [], arith, length, subst}
use Rattle.lit_syntax.specs.Syntax.{Litmus}
use Rattle.lit_paths.specs.Choice.{combinations_of}
use Rattle.lit_why.specs.Internal.Added.{Adds}
use Rattle.lit_why.specs.Internal.Trials.{IsLeastTryOn}
use Rattle.lit_why.proofs.AttemptLemmas.{adds_on, first_attempts}
use Rattle.lit_why.proofs.enumeration.attempts.Goals as goal

pub loop-combination-preserved : goal.loop-combination-preserved
loop-combination-preserved c =
    let mid = c.loop-combination.found.items in
    let new = c.add_on.new.attempts.items in
    adds_on c.args.plan.now c.args.class c.loop-combination.combination c.args.most [] mid new c.loop-combination.invariant
    (subst (λ (q : Litmus × ℕ). Adds q.0 c.args.most (IsLeastTryOn q.0 c.args.class q.1) mid new) c.open-problem.ensures
    c.in_ok-add_on.ensures)

pub returns : goal.returns
returns c =
    let past : length (combinations_of c.args.plan.now) ≤ c.loop-combination.combination =
    omega (arith, c.combinations-combination-end.ensures.value, c.loop-combination-test.false) in
    first_attempts c.args.plan.now c.args.class c.loop-combination.combination c.args.most c.loop-combination.found.items past
    c.loop-combination.invariant
