use Rattle.std.proofs.Common.{◌+◌, ◌==◌, ap, ap₂, sym, ◌∙◌, cond, ◌&&◌, get_or, drop, zip, Bool}
use Rattle.std.proofs.lemmas.Bool.{eq-eqb, ne_eqb}
use Rattle.lit_paths.specs.Outcome.{value_in}
use Rattle.lit_paths.proofs.OutcomeRegisterSteps.{value_in_more, value_in_end}
use Rattle.lit_paths.proofs.registers.value_in.Goals as goal
use Rattle.lit_paths.proofs.registers.value_in.Goals.{else-name-agent-via-then-name-agent+else-name-register, else-name-agent-via-else-name-agent}

pub returns-then-name-register : goal.returns-then-name-register
returns-then-name-register c =
    let rest = value_in (drop (c.loop-place.place + 1) (zip c.args.names.now c.args.outcome.now)) c.args.agent c.args.register in
    let value = get_or c.args.outcome.now c.loop-place.place 0 in
    sym (c.loop-place.invariant
    ∙ value_in_more c.args.names.now c.args.outcome.now c.loop-place.place c.args.agent c.args.register c.loop-place-test.true c.requires
    ∙ ap₂ (λ (a b : Bool). cond (a && b) value rest) (eq-eqb _ _ c.if-name-agent.true) (eq-eqb _ _ c.if-name-register.true))

pub loop-place-preserved : goal.loop-place-preserved
loop-place-preserved c =
    let rest = value_in (drop (c.loop-place.place + 1) (zip c.args.names.now c.args.outcome.now)) c.args.agent c.args.register in
    let value = get_or c.args.outcome.now c.loop-place.place 0 in
    let step = c.loop-place.invariant ∙ value_in_more c.args.names.now c.args.outcome.now c.loop-place.place c.args.agent c.args.register c.loop-place-test.true c.requires in
    elim c.else-name-agent.branch [
      | else-name-agent-via-then-name-agent+else-name-register w ↦
          step ∙ ap₂ (λ (a b : Bool). cond (a && b) value rest) (eq-eqb _ _ w.if-name-agent.true) (ne_eqb _ _ w.if-name-register.false)
      | else-name-agent-via-else-name-agent w ↦
          step ∙ ap (λ (a : Bool). cond (a && ((get_or c.args.names.now c.loop-place.place (0, 0)).1 == c.args.register)) value rest) (ne_eqb _ _ w.if-name-agent.false)
    ]

pub returns : goal.returns
returns c = sym (c.loop-place.invariant ∙ value_in_end c.args.names.now c.args.outcome.now c.loop-place.place c.args.agent c.args.register c.loop-place-test.false c.requires)
