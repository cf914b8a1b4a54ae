-- What a call that wrote to memory hands out.
use Rattle.std.proofs.Common.{◌≡◌, ◌∙◌, ◌++◌, [], ℕ, List, Option, Some, ap, subst}
use Rattle.jslit.specs.declared.fault.RunFault.{RunFault}
use Rattle.jslit.specs.Answer.{HasGrown, HasGrownRefusal}
use Rattle.jslit.specs.Devices.{IsInputText, OfInputText}
use Rattle.jslit_embed.specs.Handed.{HandsAnswer, HandsOut, HandsRefusal}

module _ (old new was room : List ℕ) (count : ℕ) (empty : old ≡ []) (handed : HandsOut new was room count) where
  -- what was written to empty memory
  pub whole : (answer : List ℕ) → new ≡ old ++ answer → HandsOut answer was room count
  whole answer written =
      let same : new ≡ answer = written ∙ ap (λ (l : List ℕ). l ++ answer) empty in
      subst (λ (l : List ℕ). HandsOut l was room count) same handed

  module _ (text : List ℕ) (told : Option (List ℕ)) (is : told ≡ Some text) where
    pub answered : (Is : List ℕ → List ℕ → Type 0) → OfInputText told (λ t. HasGrown (Is t) (Some old) (Some new)) → HandsAnswer Is text was room count
    answered Is of = record {
      text = of.text;
      is_input = subst (λ (o : Option (List ℕ)). IsInputText o of.text) is of.is_input;
      holds = record { answer = of.holds.answer; on = of.holds.on; handed = whole of.holds.answer of.holds.written };
    }

    pub refused : (IsFault : List ℕ → RunFault → Type 0) (failed : Type 0) → ¬ failed
        → OfInputText told (λ t. HasGrownRefusal (IsFault t) (Some old) (Some new) failed) → HandsRefusal IsFault text was room count
    refused IsFault failed not of = record {
      text = of.text;
      is_input = subst (λ (o : Option (List ℕ)). IsInputText o of.text) is of.is_input;
      holds = record {
        fault = of.holds.fault;
        refusal = of.holds.refusal;
        on = of.holds.on;
        handed = whole _ (of.holds.written not);
      };
    }
