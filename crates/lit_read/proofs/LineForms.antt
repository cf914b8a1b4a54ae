-- Check lines, and all forms.
use Rattle.std.proofs.Common.{◌≡◌, List, ◌∷◌, Option, Some, None, refl, ap, sym, subst, ◌∙◌, Result, Ok, Err}
use Rattle.std.specs.Prelude.{codes, IfOk, IfNone}
use Rattle.lit_syntax.specs.Tokens.{Token, Word}
use Rattle.lit_syntax.specs.Written.{Written, written_tokens}
use Rattle.lit_syntax.specs.Forms.{CheckLine, spelled, IsForm}
use Rattle.lit_read.specs.Internal.FormOfTokens.{after_word, word_of, fixed_form}
use Rattle.lit_read.specs.Internal.Marks.{Mark, written_marks, SpellsMarks, SpellsNoCondition, SpellsForm, SpellsNoCheck, SpellsNothing, IsSpelling}
use Rattle.lit_syntax.proofs.ListLemmas.{tail_is}
use Rattle.lit_read.proofs.RowLemmas.{after_word_is}
use Rattle.lit_read.proofs.FormLemmas.{fixed_form_absent}

again : (rest : List Token) → after_word (Word (codes "check") ∷ rest) (codes "check") ≡ Some rest
unfolding after_word word_of
again rest = refl

pub no_check : (ts : List Token) → after_word ts (codes "check") ≡ None → SpellsNoCheck ts
unfolding spelled
no_check ts none w is = let found : after_word ts (codes "check") ≡ Some (written_tokens w) = ap (λ (x : List Token). after_word x (codes "check")) is.0 ∙ again (written_tokens w) in absurd cc

pub check_found : (ts rest : List Token) (marks : List Mark) → after_word ts (codes "check") ≡ Some rest → SpellsMarks rest marks → SpellsForm ts (λ form. (w : Written) × (form ≡ CheckLine w) × (marks ≡ written_marks w))
unfolding spelled IsForm
check_found ts rest marks e spells = (CheckLine spells.0, (spells.0, refl, spells.1), (after_word_is ts (codes "check") rest e ∙ ap (λ (x : List Token). Word (codes "check") ∷ x) spells.2, spells.3))

pub check_absent : (ts rest : List Token) → after_word ts (codes "check") ≡ Some rest → SpellsNoCondition rest → SpellsNoCheck ts
unfolding spelled IsForm
check_absent ts rest e nothing w is = nothing w (tail_is _ _ _ _ (sym (after_word_is ts (codes "check") rest e) ∙ is.0)) is.1

pub form_absent : (ts : List Token) → fixed_form ts ≡ None → SpellsNoCheck ts → SpellsNothing ts
form_absent ts none no_check form is = let w = fixed_form_absent ts form none is in no_check w.0 (subst (IsSpelling ts) w.1 is)

pub if_none_weaker : {A E : Type 0} {P Q : Type 0} (r : Result (Option A) E) → (P → Q) → IfOk r (λ o. IfNone o P) → IfOk r (λ o. IfNone o Q)
if_none_weaker (Ok (Some x)) f h = h
if_none_weaker (Ok None) f h = f h
if_none_weaker (Err e) f h = h
