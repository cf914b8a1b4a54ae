use Rattle.std.proofs.Common.{◌-◌, ◌∙◌, ℕ, IsSome, Some, ap, arith, get_or, refl, subst, sym}
use Rattle.std.proofs.lemmas.Option.{same_Some, slice_get-get_or}
use Rattle.lit_reason.proofs.LineLemmas.{cut_more}
use Rattle.lit_reason.proofs.cores.pop_line.Goals as goal

pub bytes-preserved : goal.bytes-preserved
bytes-preserved c =
    cut_more _ c.bytes.text.items _ c.pop-in-bytes.result c.bytes.invariant c.pop-in-bytes.ensures.items
    (λ is. c.if-index-ne10.true (c.index.ensures ∙ ap (λ (k : ℕ). get_or c.bytes.text.items (k - 1) c.index.result.now) c.len.ensures
    ∙ same_Some _ _ (sym (c.pop-in-bytes.ensures.value c.index.result.now (c.pop-in-bytes.ensures.variant.0 (subst IsSome (sym is) refl))) ∙ is)))

pub returns-else-index-ne10 : goal.returns-else-index-ne10
returns-else-index-ne10 c = record {
  rest = c.bytes.invariant.rest;
  parts = c.bytes.invariant.parts;
  some = c.bytes.invariant.some;
  one_line = c.bytes.invariant.one_line;
  ends = λ i last. slice_get-get_or c.bytes.text.items i c.index.result.now (omega (arith, last))
      ∙ ap Some (ap (λ (k : ℕ). get_or c.bytes.text.items k c.index.result.now) (omega (arith, last, c.len.ensures, c.bytes.text.ok))
      ∙ sym c.index.ensures ∙ c.if-index-ne10.false);
}
