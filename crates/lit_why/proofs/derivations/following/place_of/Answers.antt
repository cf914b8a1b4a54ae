use Rattle.std.proofs.Common.{◌∙◌, ap, below_more, arith}
use Rattle.std.proofs.lemmas.Option.{get_or_from_slice_get, slice_get_within}
use Rattle.lit_why.specs.declared.derivations.lines.DerivationLine.{DerivationLine}
use Rattle.lit_why.specs.Derivation.{IsLineOf}
use Rattle.lit_why.proofs.derivations.following.place_of.Goals as goal
use Rattle.lit_why.proofs.derivations.following.place_of.Goals.{else-from-before-via-then-from-before+else-from-after, else-from-before-via-else-from-before}

pub loop-place-preserved : goal.loop-place-preserved
loop-place-preserved c =
    below_more (λ k. IsLineOf c.args.lines.now k c.args.before c.args.after → ⊥) c.loop-place.place c.loop-place.invariant
    (λ h.
    let is = get_or_from_slice_get c.args.lines.now c.loop-place.place h.line _ h.at_place in
    elim c.else-from-before.branch [
      | else-from-before-via-then-from-before+else-from-after w ↦
          w.if-from-after.false (w.from-then-from-before.ensures ∙ ap (λ (line : DerivationLine). line.after) is ∙ h.second)
      | else-from-before-via-else-from-before w ↦ w.if-from-before.false (c.from.ensures ∙ ap (λ (line : DerivationLine). line.before) is ∙ h.first)
    ])

pub returns : goal.returns
returns c =
    let line = c.requires in
    let within = slice_get_within c.args.lines.now line.0 line.1.line line.1.at_place in
    absurd (c.loop-place.invariant line.0 (omega (arith, within, c.loop-place-test.false)) line.1)
