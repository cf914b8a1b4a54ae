use Rattle.lit_solve.proofs.Words.{ap, arith, cases_eq, false≢true, get_or, get_or_from_slice_get, inl, inr, OpenRead, refl}
use Rattle.lit_solve.proofs.Words.{slice_get-get_or, slice_get_within, sym, ℕ, ◌∙◌}
use Rattle.lit_solve.proofs.product.is_listed.Goals as goal

pub returns-then-reads-i : goal.returns-then-reads-i
returns-then-reads-i c = (
  λ _. record {
    place = c.loop-i.i;
    it = get_or c.args.reads.now c.loop-i.i c.index-reads-i.result;
    is = slice_get-get_or c.args.reads.now c.loop-i.i c.index-reads-i.result c.loop-i-test.true;
    same = c.if-reads-i.true;
  },
  λ _. refl,
)

pub loop-i-preserved : goal.loop-i-preserved
loop-i-preserved c k it below at = elim (cases_eq k c.loop-i.i) [
  | inl last ↦ (λ same. c.if-reads-i.false
      (ap (λ (o : OpenRead). o.read) (ap (λ (j : ℕ). get_or c.args.reads.now j c.index-reads-i.result) (sym last)
      ∙ get_or_from_slice_get c.args.reads.now k it c.index-reads-i.result at) ∙ same))
  | inr other ↦ c.loop-i.invariant k it (omega (arith, below, other)) at
]

pub returns : goal.returns
returns c = (
  λ is. absurd (false≢true is),
  λ listed. absurd (c.loop-i.invariant listed.place listed.it
      (omega (arith, slice_get_within c.args.reads.now listed.place listed.it listed.is, c.loop-i-test.false)) listed.is listed.same),
)
