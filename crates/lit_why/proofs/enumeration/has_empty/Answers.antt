use Rattle.std.proofs.Common.{ℕ, arith, inl, inr, subst, sym, ◌∙◌}
use Rattle.std.proofs.lemmas.Bool.{cases_eq, false≢true}
use Rattle.lit_solve.specs.Box.{HasSource, box_with}
use Rattle.lit_why.proofs.TrialLemmas.{reads_len}
use Rattle.lit_why.proofs.enumeration.has_empty.Goals as goal

pub loop-place-preserved : goal.loop-place-preserved
loop-place-preserved c k below none = elim (cases_eq k c.loop-place.place) [
  | inl same ↦ false≢true (sym c.if-is_empty.false
      ∙ c.is_empty.ensures.1 (subst (λ (j : ℕ). (w : ℕ) → ¬ HasSource (box_with c.args.problem.now c.args.domains.now) j w) same none))
  | inr other ↦ c.loop-place.invariant k (omega (arith, below, other)) none
]

pub returns : goal.returns
returns c =
    let long = reads_len c.args.problem.now c.combination-2.result.now c.byte_reads-place-end.result.now c.byte_reads-place-end.ensures
    c.combination-2.ensures in (
      λ never. absurd (false≢true never),
      λ some. absurd (c.loop-place.invariant some.0 (omega (arith, some.1, long, c.loop-place-test.false)) some.2),
    )
