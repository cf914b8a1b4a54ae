-- The effect of the program, by what its words ask for.
use Rattle.std.proofs.Common.{◌≡◌, ◌≢◌, ◌⊎◌, ◌<◌, ◌∙◌, ℕ, Bool, true, false, List, Option, Some, None, option_map, is_some, sym, ap, subst, inl, inr, arith}
use Rattle.std.specs.Borrow.{Bor}
use Rattle.clap.specs.Words.{HasKind, IsAmong, Kinds, Text, kind_of}
use Rattle.clap.specs.declared.error.Error.{Error}
use Rattle.clap.specs.declared.error.kind.ErrorKind.{ErrorKind}
use Rattle.clap.specs.declared.error.kind.ErrorKind.TheVariants as kinds
use Rattle.lit_command_line.specs.declared.command_line.Line.{Line}
use Rattle.lit_report.specs.declared.counted.Counted.{Counted}
use Rattle.jslit.specs.Answer.{IsCheckStatus}
use Rattle.lit_report.specs.Counted.{device_of, failures_of}
use Rattle.jslit.specs.Devices.{OfInputText}
use Rattle.lit_command_line.specs.Answered.{IsExplained}
use Rattle.jslit.specs.declared.fault.RunFault.{RunFault}
use Rattle.jslit.specs.ProgramAnswer.{HasAnswered, IsAnswerBy, IsFaultBy}
use Rattle.jslit.specs.RunAnswer.{HasServed}
use Rattle.jslit.proofs.Finishing.{nothing_served}
use Rattle.lit_command_line.specs.Words.{AsksHelp, AsksRun, AsksVersion, IsAsked, IsRefused, faults_of, file_in, quick_in, schedule_in}

-- what holds on a text that is told holds on some text
on_some_text : (told : Option (List ℕ)) (Holds : List ℕ → Type 0) → OfInputText told Holds → OfInputText None Holds
on_some_text told Holds on = record { text = on.text; is_input = tt; holds = on.holds }

-- where it is not known whether the reader failed, a run that failed wrote nothing, or its writer failed, or its answer is whole
module _ {W : Type 0} (contents : W → Option (List ℕ)) where
  on_some_file : (told : Option (List ℕ)) (input_failed : Type 0) (Is : Text → Text → Type 0) (IsFault : Text → RunFault → Type 0) (status : ℕ) (old new : Counted W)
      → HasServed contents told input_failed Is IsFault status old new → HasServed contents None ((status ≡ 4) × (new ≡ old)) Is IsFault status old new
  on_some_file told input_failed Is IsFault status old new served = record {
    answered = λ is. on_some_text told _ (served.answered is);
    refused = λ is. on_some_text told _ (served.refused is);
    unfailed = served.unfailed;
    failed = λ is. elim (served.failed is) [
      | inl input ↦ inl (served.unwritten input)
      | inr other ↦ elim other [ inl output ↦ inr (inl output) | inr whole ↦ inr (inr (on_some_text told _ whole)) ]
    ];
    begun = λ is. elim (served.begun is) [ inl same ↦ inl same | inr some ↦ inr (on_some_text told _ some) ];
    unwritten = λ both. both;
  }

  -- of the line, and so of the words
  of_words : (words : List Text) (line : Line) (told : Option (List ℕ)) (input_failed : Type 0) (status : ℕ) (old new : Counted W) → IsAsked words line
      → HasServed contents told input_failed (IsAnswerBy line.options.quick (option_map (λ s. s.now) line.schedule))
      (IsFaultBy (option_map (λ s. s.now) line.schedule)) status old new
      → HasServed contents told input_failed (IsAnswerBy (quick_in words) (schedule_in words)) (IsFaultBy (schedule_in words)) status old new
  of_words words line told input_failed status old new asked served =
      subst (λ (q : Bool). HasServed contents told input_failed (IsAnswerBy q (schedule_in words)) (IsFaultBy (schedule_in words)) status old new) asked.quick
      (subst (λ (s : Option Text). HasServed contents told input_failed (IsAnswerBy line.options.quick s) (IsFaultBy s) status old new) asked.schedule served)

  module _ {R : Type 0} (remaining : R → Option (List ℕ)) (words : List Text) (status : ℕ) (old_input new_input : Counted R) (old new : Counted W) where
    abbrev Whole : Type 0
    Whole = HasAnswered remaining contents words status old_input new_input old new

    -- the words have an error
    pub of_error : (e : Error) → HasKind (faults_of words) e → IsExplained (kind_of e) status → new_input ≡ old_input → Whole
    of_error e has explained same = elim explained [
      | inl memory ↦ record {
        asked = inr (inr (inl memory.1));
        on_input = λ _ _. nothing_served contents _ _ _ _ status old new memory.1 (λ failed. same_failures failed);
        on_file = λ _ _. (same, nothing_served contents _ _ _ _ status old new memory.1 (λ both. absurd (omega (arith, memory.1, both.0))));
      }
      | inr other ↦ elim other [
        | inl help ↦
            let there = among (λ memory. let bad : kinds.DisplayHelp ≡ kinds.OutOfMemory = sym help.0 ∙ memory in absurd cc) in
            without_run (inl (help.1, inl (subst (λ (k : ErrorKind). IsAmong k (faults_of words)) help.0 there))) there
        | inr rest ↦ elim rest [
          | inl version ↦
              let there = among (λ memory. let bad : kinds.DisplayVersion ≡ kinds.OutOfMemory = sym version.0 ∙ memory in absurd cc) in
              without_run (inl (version.1, inr (subst (λ (k : ErrorKind). IsAmong k (faults_of words)) version.0 there))) there
          | inr fault ↦ without_run (inr (inl (fault.3, (kind_of e, among fault.0, fault.1, fault.2)))) (among fault.0)
        ]
      ]
    ]
      where
        among : (kind_of e ≢ kinds.OutOfMemory) → IsAmong (kind_of e) (faults_of words)
        among unlike = elim has [ inl memory ↦ absurd (unlike memory) | inr there ↦ there ]

        same_failures : failures_of old_input < failures_of new_input → ⊥
        same_failures lt =
            let equal : failures_of new_input ≡ failures_of old_input = ap failures_of same in
            omega (arith, lt, equal)

        no_run : IsAmong (kind_of e) (faults_of words) → AsksRun words → ⊥
        no_run there run = subst (λ (k : Kinds). IsAmong (kind_of e) k) run there

        without_run : (((status ≡ 0) × (AsksHelp words ⊎ AsksVersion words)) ⊎ ((status ≡ 2) × IsRefused words) ⊎ (status ≡ 3) ⊎ (AsksRun words × IsCheckStatus status))
            → IsAmong (kind_of e) (faults_of words) → Whole
        without_run is there = record {
          asked = is;
          on_input = λ run _. absurd (no_run there run);
          on_file = λ run _. absurd (no_run there run);
        }

    -- the words name a file
    pub of_file : (line : Line) (path : Bor Text) (told : Option (List ℕ)) (input_failed : Type 0) → IsAsked words line → line.file ≡ Some path → IsCheckStatus status
        → new_input ≡ old_input
        → HasServed contents told input_failed (IsAnswerBy line.options.quick (option_map (λ s. s.now) line.schedule))
        (IsFaultBy (option_map (λ s. s.now) line.schedule)) status old new
        → Whole
    of_file line path told input_failed asked named is same served = record {
      asked = inr (inr (inr (asked.run, is)));
      on_input = λ _ unnamed.
          let bad : Some path.now ≡ None = ap (option_map (λ s. s.now)) (sym named) ∙ asked.file ∙ unnamed in
          absurd cc;
      on_file = λ _ _. (same, of_words words line _ _ status old new asked (on_some_file told input_failed _ _ status old new served));
    }

    -- the words name none
    pub of_input : (line : Line) → IsAsked words line → line.file ≡ None → IsCheckStatus status
        → HasServed contents (remaining (device_of old_input)) (failures_of old_input < failures_of new_input)
        (IsAnswerBy line.options.quick (option_map (λ s. s.now) line.schedule)) (IsFaultBy (option_map (λ s. s.now) line.schedule)) status old new
        → Whole
    of_input line asked unnamed is served = record {
      asked = inr (inr (inr (asked.run, is)));
      on_input = λ _ _. of_words words line _ _ status old new asked served;
      on_file = λ _ named.
          let none : None ≡ file_in words = ap (option_map (λ s. s.now)) (sym unnamed) ∙ asked.file in
          let bad : false ≡ true = ap is_some none ∙ named in
          absurd cc;
    }
