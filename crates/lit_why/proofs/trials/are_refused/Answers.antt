use Rattle.std.proofs.Common.{◌≡◌, ◌<◌, ℕ, None, ap, arith, inl, inr, length, List, subst, sym, ◌∙◌}
use Rattle.std.proofs.lemmas.Bool.{cases_eq, false≢true}
use Rattle.lit_syntax.specs.Syntax.{Litmus}
use Rattle.lit_paths.specs.declared.event.Event.{Event}
use Rattle.lit_paths.specs.Plan.{IsWalkIn, walk_in}
use Rattle.lit_rel.specs.Broken.{HasFalseGuardOn}
use Rattle.lit_rel.proofs.RefusalLemmas.{asked_known}
use Rattle.lit_solve.specs.Box.{box_with, events_on}
use Rattle.lit_why.specs.Internal.Trials.{IsReadRefused}
use Rattle.lit_why.proofs.TrialLemmas.{refused_by_read}
use Rattle.lit_why.proofs.trials.are_refused.Goals as goal

pub returns-then-is_read_refused : goal.returns-then-is_read_refused
returns-then-is_read_refused c sources lie =
    let box = box_with c.args.problem.now c.args.domains.now in
    refused_by_read box c.loop-read.read sources lie
    (subst (IsReadRefused box c.loop-read.read) c.if-is_read_refused.true c.is_read_refused.ensures sources lie)

pub loop-read-preserved : goal.loop-read-preserved
loop-read-preserved c r below sources lie is =
    let box = box_with c.args.problem.now c.args.domains.now in
    elim (cases_eq r c.loop-read.read) [
      | inl same ↦
          let here : IsReadRefused box r c.is_read_refused.result =
          subst (λ (q : ℕ). IsReadRefused box q c.is_read_refused.result) (sym same) c.is_read_refused.ensures in
          subst (IsReadRefused box r) c.if-is_read_refused.false here sources lie is
      | inr other ↦ c.loop-read.invariant r (omega (arith, below, other)) sources lie is
    ]

pub returns : goal.returns
returns c sources lie h =
    let p = c.args.problem.now in
    elim h [
      | inl f ↦ absurd (false≢true (sym c.if-has_false_guard.false
          ∙ c.has_false_guard.ensures.value.1 (subst (λ (q : Litmus × ℕ). HasFalseGuardOn q.0 q.1 None 0) (sym c.combination.ensures) f)))
      | inr some ↦
          let walks = subst (λ (q : Litmus × ℕ). (agent : ℕ) → agent < length q.0.agents
          → IsWalkIn q.0 q.1 agent (walk_in q.0 q.1 agent)) c.combination.ensures
          (c.has_false_guard.ensures.walks (λ is. false≢true (sym c.if-has_false_guard.false ∙ is))) in
          let known = asked_known p.0 p.1 some.0 _ walks some.2 in
          let end : length c.events-read-end.result.now ≡ length (events_on p) =
          ap (λ (es : List Event). length es) c.events-read-end.ensures.value
          ∙ ap (λ (q : Litmus × ℕ). length (events_on q)) c.combination-2.ensures in
          c.loop-read.invariant some.0 (omega (arith, known, end, c.loop-read-test.false)) sources lie some.2
    ]
