use Rattle.std.proofs.Common.{ℕ, [], arith, inl, inr}
use Rattle.std.proofs.lemmas.Option.{none-some}
use Rattle.lit_rel.specs.HappensBefore.{StepBy}
use Rattle.lit_rel.specs.ReadsFrom.{ReadsByteFrom}
use Rattle.lit_rel.specs.Rows.{Holds}
use Rattle.lit_rel.proofs.ChainLemmas.{Chain-same}
use Rattle.lit_rel.proofs.part.fixed_steps.unsourced_order.Goals as goal

pub returns-clause-pairs : goal.returns-clause-pairs
returns-clause-pairs c e d =
    let fixed = Holds c.loop-first.steps in
    let steps = StepBy c.args.events.now (ReadsByteFrom c.args.events.now []) in
    let to : (a b : ℕ) → fixed a b → steps a b = λ a b h. elim ((c.loop-first.invariant.pairs a b).0 h).1 [ inl first ↦ inl first | inr made ↦ inr (inr made) ] in
    let from : (a b : ℕ) → steps a b → fixed a b = λ a b h. elim h [
      | inl first ↦ (c.loop-first.invariant.pairs a b).1 (omega (arith, first.first_known, c.loop-first-test.false), inl first)
      | inr rest ↦ elim rest [
        | inl s ↦ absurd (none-some a s.reads.1.2)
        | inr made ↦ (c.loop-first.invariant.pairs a b).1 (omega (arith, made.first_known, c.loop-first-test.false), inr made)
      ]
    ] in (
      (λ h. let chain = (c.closed.ensures.pairs e d).0 h in record { middles = chain.0; chain = Chain-same fixed steps to e chain.0 d chain.1 }),
      (λ h. (c.closed.ensures.pairs e d).1 (h.middles, Chain-same steps fixed from e h.middles d h.chain)),
    )
