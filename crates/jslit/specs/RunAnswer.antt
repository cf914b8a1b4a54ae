-- The effect of a run on its reader and its writer, and the program's status after it (this project's own).
use Rattle.std.specs.Prelude.{◌≡◌, ◌≢◌, ◌⊎◌, ◌↔◌, ◌<◌, ◌≤◌, ◌+◌, ℕ, List, Option, Result, IfErr, IsErrOf, OnOk}
use Rattle.std.specs.Io.KnownBytes.{Appends, Consumes}
use Rattle.lit_syntax.specs.declared.limits.TheConstants.{TEXT_LIMIT}
use Rattle.lit_report.specs.declared.counted.Counted.{Counted}
use Rattle.jslit.specs.declared.fault.RunFault.{RunFault}
use Rattle.jslit.specs.declared.fault.RunFault.TheVariants as faults
use Rattle.jslit.specs.Answer.{Begins, HasGrown, HasGrownRefusal, refusal_line}
use Rattle.lit_report.specs.Counted.{device_of, failures_of}
use Rattle.lit_report.specs.Writing.{AppendsBeginning}
use Rattle.jslit.specs.Devices.{ConsumesBeginning, IsInputText, OfInputText}

-- A device is said to have failed, by this fault, exactly where its count of failures rose in the run; a count never falls.
abbrev pub IsCounted : {T : Type 0} → Result T RunFault → RunFault → (before after : ℕ) → Type 0
IsCounted result fault before after = (IsErrOf result fault ↔ (before < after)) × (before ≤ after)

-- No byte behind the text is read, and where the text was read whole, each byte of it is.
pub record HasReadText {T : Type 0} (text : List ℕ) (result : Result T RunFault) (old new : Option (List ℕ)) : Type 0 where
  pub few : ConsumesBeginning old new (TEXT_LIMIT + 1)
  pub whole : ¬ IsErrOf result faults.InputFailed → ¬ IsErrOf result faults.OutOfMemory → Consumes old new text

-- A run reads a text, and the writer gets an answer of this kind on it behind the bytes that it had, or there is a fault of this
-- kind on it; where a write failed, the writer got a beginning of an answer on it, and else with a fault nothing.
pub record HasRun {R W T : Type 0} (remaining : R → Option (List ℕ)) (contents : W → Option (List ℕ))
    (IsAnswer : (text answer : List ℕ) → Type 0) (IsFault : (text : List ℕ) → RunFault → Type 0)
    (result : Result T RunFault) (old_input new_input : Counted R) (old new : Counted W) : Type 0 where
  pub text : List ℕ
  pub is_input : IsInputText (remaining (device_of old_input)) text
  pub answered : OnOk result (HasGrown (IsAnswer text) (contents (device_of old)) (contents (device_of new)))
  pub refused : IfErr result (IsFault text)
  pub begun : IsErrOf result faults.OutputFailed → HasGrown (Begins (IsAnswer text)) (contents (device_of old)) (contents (device_of new))
  pub unwritten : IfErr result (λ fault. fault ≢ faults.OutputFailed → new ≡ old)
  pub input_failed : IsCounted result faults.InputFailed (failures_of old_input) (failures_of new_input)
  pub output_failed : IsCounted result faults.OutputFailed (failures_of old) (failures_of new)
  pub read : HasReadText text result (remaining (device_of old_input)) (remaining (device_of new_input))

-- The effect of a run on the bytes that a reader tells, by the program's status: with 0 the output took the whole answer, and no write
-- failed; with 1 the line of the refusal, or a beginning of it where a write failed; with 4 an input or output failed, or
-- flushing the whole answer did, and the output took a beginning of the answer or nothing.
pub record HasServed {W : Type 0} (contents : W → Option (List ℕ)) (input : Option (List ℕ)) (input_failed : Type 0)
    (IsAnswer : (text answer : List ℕ) → Type 0) (IsFault : (text : List ℕ) → RunFault → Type 0)
    (status : ℕ) (old new : Counted W) : Type 0 where
  pub answered : status ≡ 0 → OfInputText input (λ text. HasGrown (IsAnswer text) (contents (device_of old)) (contents (device_of new)))
  pub refused : status ≡ 1 → OfInputText input
      (λ text. HasGrownRefusal (IsFault text) (contents (device_of old)) (contents (device_of new)) (failures_of old < failures_of new))
  pub unfailed : status ≡ 0 → failures_of new ≡ failures_of old
  pub failed : status ≡ 4 → input_failed ⊎ (failures_of old < failures_of new)
      ⊎ OfInputText input (λ text. HasGrown (IsAnswer text) (contents (device_of old)) (contents (device_of new)))
  pub begun : status ≡ 4 → (new ≡ old)
      ⊎ OfInputText input (λ text. HasGrown (Begins (IsAnswer text)) (contents (device_of old)) (contents (device_of new)))
  pub unwritten : input_failed → (status ≡ 4) × (new ≡ old)

-- known bytes grew by the line of a refusal, and where a write failed, by a beginning of it
pub record HasSaid (fault : RunFault) (old new : Option (List ℕ)) (failed : Type 0) : Type 0 where
  pub written : ¬ failed → Appends old new (refusal_line fault)
  pub begun : failed → AppendsBeginning old new (refusal_line fault)
