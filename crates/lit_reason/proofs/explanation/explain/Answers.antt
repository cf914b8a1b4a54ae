use Rattle.std.proofs.Common.{◌≡◌, ◌∙◌, Bor, IfSome, List, None, Option, Some, inl, inr, refl, sym, subst, ℕ}
use Rattle.std.proofs.lemmas.Bool.{false≢true}
use Rattle.lit_read.specs.Faults.{IsFirstFault}
use Rattle.lit_reason.specs.OtherCondition.{IsTextWith}
use Rattle.lit_reason.proofs.explanation.explain.Goals as goal

pub returns-clause-fault : goal.returns-clause-fault
returns-clause-fault c = record {
  test = c.in_ok-test.test;
  spelled = c.in_ok-test.ensures.spells;
  other = λ none. absurd (let bad : Some c.in-Some.condition ≡ None = sym c.in-Some.is ∙ none in cc);
  changed = c.in-Ok.other.items;
  is_changed = subst (λ (o : Option (Bor (List ℕ))). IfSome o (λ condition. IsTextWith c.in_ok-test.test condition.now c.in-Ok.other.items))
      (sym c.in-Some.is) c.in-Ok.ensures;
  fault = c.in-Err.fault;
  refused = elim c.in-Err.ensures.fault [
    | inl memory ↦ absurd (false≢true (sym c.if-eq.false ∙ c.eq.ensures ∙ rw (memory.0) refl))
    | inr first ↦ subst (λ (l : List ℕ). IsFirstFault l c.in-Err.fault.kind c.in-Err.fault.line) c.deref.ensures.value first
  ];
}
