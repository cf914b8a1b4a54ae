-- What the program answers for its words (this project's own).
use Rattle.std.specs.Prelude.{◌≡◌, ◌⊎◌, ◌<◌, ℕ, Bool, List, Option, Some, None, is_some, true}
use Rattle.clap.specs.Words.{Text}
use Rattle.lit_report.specs.declared.counted.Counted.{Counted}
use Rattle.jslit.specs.declared.fault.RunFault.{RunFault}
use Rattle.jslit.specs.Answer.{IsAnswerOn, IsCheckStatus, IsFaultOn}
use Rattle.lit_report.specs.Counted.{device_of, failures_of}
use Rattle.jslit.specs.InterleavingAnswer.{IsInterleavingOn, IsScheduleFaultOn}
use Rattle.jslit.specs.RunAnswer.{HasServed}
use Rattle.lit_command_line.specs.Words.{AsksHelp, AsksRun, AsksVersion, IsRefused, file_in, quick_in, schedule_in}

-- the answer is the outcome of the schedule where there is one, and else the report
abbrev pub IsAnswerBy : (quick : Bool) → Option Text → (text answer : List ℕ) → Type 0
IsAnswerBy quick None text answer = IsAnswerOn quick text answer
IsAnswerBy quick (Some schedule) text answer = IsInterleavingOn schedule text answer

abbrev pub IsFaultBy : Option Text → (text : List ℕ) → RunFault → Type 0
IsFaultBy None text fault = IsFaultOn text fault
IsFaultBy (Some schedule) text fault = IsScheduleFaultOn schedule text fault

-- The effect of the program: help or the version where the words ask for it, the status 2 where they are refused, 3 where memory ran out,
-- and else a run on what the input tells, or on a file, of whose bytes nothing is known; then the input is as it was.
pub record HasAnswered {R W : Type 0} (remaining : R → Option (List ℕ)) (contents : W → Option (List ℕ)) (words : List Text) (status : ℕ)
    (old_input new_input : Counted R) (old new : Counted W) : Type 0 where
  pub asked : ((status ≡ 0) × (AsksHelp words ⊎ AsksVersion words)) ⊎ ((status ≡ 2) × IsRefused words) ⊎ (status ≡ 3)
      ⊎ (AsksRun words × IsCheckStatus status)
  pub on_input : AsksRun words → file_in words ≡ None
      → HasServed contents (remaining (device_of old_input)) (failures_of old_input < failures_of new_input)
      (IsAnswerBy (quick_in words) (schedule_in words)) (IsFaultBy (schedule_in words)) status old new
  pub on_file : AsksRun words → is_some (file_in words) ≡ true
      → (new_input ≡ old_input) × HasServed contents None ((status ≡ 4) × (new ≡ old))
      (IsAnswerBy (quick_in words) (schedule_in words)) (IsFaultBy (schedule_in words)) status old new
