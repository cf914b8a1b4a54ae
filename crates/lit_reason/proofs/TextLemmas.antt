-- What the texts of answers say: a choice with an outcome is told by its entry, and one that is refused has none.
use Rattle.std.proofs.Common.{◌≡◌, ℕ, List, ◌++◌, append_assoc, codes, inl, inr, ap, subst, sym, ◌∙◌}
use Rattle.std.proofs.lemmas.Option.{same_Some}
use Rattle.lit_syntax.specs.Syntax.{IsLitmus, Litmus}
use Rattle.lit_paths.specs.Choice.{Choice}
use Rattle.lit_paths.specs.Members.{AreSources}
use Rattle.lit_paths.specs.declared.event.Event.{Event}
use Rattle.lit_rel.specs.Part.{PartModel, part_events}
use Rattle.lit_valid.specs.Completion.{HasCompletion, IsOnCombination}
use Rattle.lit_valid.specs.Entry.{Entry}
use Rattle.lit_valid.specs.Gives.{Gives}
use Rattle.lit_report.specs.EntryText.{entry_text, event_name}
use Rattle.lit_why.specs.Refusal.{IsRefusal}
use Rattle.lit_why.specs.declared.refusals.causes.Refusal.{Refusal}
use Rattle.lit_reason.specs.AnswerText.{IsPartOf}
use Rattle.lit_reason.specs.Example.{HasNoOutcome, IsEntryOf, IsExampleText}

pub entry_of : (t : Litmus) (n : ℕ) (text : List ℕ) → IsExampleText t n text → (outcome : List ℕ) → Gives t n outcome
    → (entry : Entry) × IsEntryOf t n entry × (text ≡ entry_text t entry)
entry_of t n text (inl entry) outcome gives = entry
entry_of t n text (inr none) outcome gives = absurd (none.0 outcome gives)

module _ (t : Litmus) (n : ℕ) (part : PartModel) (is : IsPartOf t n part) where
  its_sources : AreSources (part_events part) part.sources
  its_sources =
      let same : is.of.choice ≡ is.has.choice = same_Some is.of.choice is.has.choice (sym is.of.listed ∙ is.has.listed) in
      subst (λ (ws : List ℕ). AreSources (part_events part) ws) (ap (λ (choice : Choice). choice.sources) same ∙ is.has.same) is.of.sourced

  -- where the part is refused, the choice has no outcome
  pub refused_gives_none : IsLitmus t → (refusal : Refusal) → IsRefusal part refusal
      → (IsOnCombination part → AreSources (part_events part) part.sources → IsRefusal part refusal → ¬ HasCompletion part)
      → (((outcome : List ℕ) × Gives part.test n outcome) → HasCompletion part) → HasNoOutcome t n
  refused_gives_none litmus refusal refused no_completion completes outcome gives =
      no_completion (record { litmus = subst IsLitmus (sym is.test) litmus; known = is.of.known }) its_sources refused
      (completes (outcome, subst (λ (u : Litmus). Gives u n outcome) (sym is.test) gives))

  -- where the part has a completion, the choice has an outcome
  pub completed_gives_some : HasCompletion part → (HasCompletion part → (outcome : List ℕ) × Gives part.test n outcome)
      → (outcome : List ℕ) × Gives t n outcome
  completed_gives_some completion gives =
      let some = gives completion in
      (some.0, subst (λ (u : Litmus). Gives u n some.0) is.test some.1)

-- the text of a pair in a data race, as it is put together
pub pair_is : (t u : Litmus) (first second : Event) (words other deeds example a b d e f text : List ℕ) → u ≡ t → a ≡ codes "data race "
    → b ≡ (a ++ event_name u first) ++ words → d ≡ b ++ codes " and " → e ≡ (d ++ event_name u second) ++ other → f ≡ e ++ deeds
    → text ≡ f ++ example
    → text ≡ (((((codes "data race " ++ event_name t first) ++ words) ++ codes " and ") ++ event_name t second) ++ (other ++ deeds)) ++ example
pair_is t u first second words other deeds example a b d e f text same begun named joined named_too told ended =
    ended
    ∙ ap (λ (bytes : List ℕ). bytes ++ example) (
    told ∙ ap (λ (bytes : List ℕ). bytes ++ deeds) named_too ∙ append_assoc (d ++ event_name u second) other deeds
    ∙ ap (λ (bytes : List ℕ). (bytes ++ event_name u second) ++ (other ++ deeds))
    (joined ∙ ap (λ (bytes : List ℕ). bytes ++ codes " and ")
    (named ∙ ap (λ (bytes : List ℕ). (bytes ++ event_name u first) ++ words) begun))
    )
    ∙ ap (λ (v : Litmus).
    (((((codes "data race " ++ event_name v first) ++ words) ++ codes " and ") ++ event_name v second) ++ (other ++ deeds)) ++ example) same
