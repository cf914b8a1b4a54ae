use Rattle.std.proofs.Common.{◌-◌, ◌≡◌, length, List, None, Some, subst, sym, ℕ}
use Rattle.std.specs.Prelude.{slice_get}
use Rattle.lit_report.proofs.ChoiceNumbers.{holds_all, holds_all_none, numbers_by_first}
use Rattle.lit_report.proofs.choice_sources.ChoiceSources.low.Goals as goal

pub returns-in-Some : goal.returns-in-Some
returns-in-Some c =
    holds_all _ _ c.in-Some.low.now _ c.requires
    (subst (λ (ls : List ℕ). slice_get ls (length ls - 1) ≡ Some c.in-Some.low.now) c.as_slice.ensures.value (sym c.in-Some.ensures.value))

pub returns-in-None : goal.returns-in-None
returns-in-None c =
    holds_all_none _ _ c.first.result _ (numbers_by_first _ _ _ c.choices_have_numbers.ensures c.first.ensures.value c.first.ensures.known) c.requires
    (subst (λ (ls : List ℕ). slice_get ls (length ls - 1) ≡ None) c.as_slice.ensures.value (sym c.in-None.ensures.value))
    c.first.ensures.value
