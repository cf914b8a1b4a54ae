-- What is printed of an answer, and which status a failed read has.
use Rattle.std.proofs.Common.{◌≡◌, ◌≤◌, Bool, List, Option, arith, refl, subst, sym, ℕ}
use Rattle.std.specs.Io.KnownBytes.{Appends}
use Rattle.lit_report.specs.Counted.{device_of}
use Rattle.lit_report.specs.Writing.{AppendsBeginning}
use Rattle.lit_report.specs.declared.counted.Counted.{Counted}
use Rattle.lit_reason.specs.declared.explanation.Answer.{Answer}
use Rattle.lit_reason.specs.declared.question.Asked.{Asked}
use Rattle.lit_reason.specs.Explained.{HasAnswerOn, IsReasonOn}
use Rattle.jslit.specs.Answer.{status_of}
use Rattle.jslit.specs.Devices.{IsReadFailure}
use Rattle.jslit.specs.declared.fault.RunFault.{RunFault}
use Rattle.jslit.specs.declared.fault.RunFault.TheVariants as faults
use Rattle.jslit_why.specs.Printed.{HasBegun, HasExplained}

module _ {W : Type 0} (contents : W → Option (List ℕ)) (text : List ℕ) (asked : Asked) (answer : Answer) (found : Bool) (bytes : List ℕ)
    (old new : Counted W) (on : HasAnswerOn text asked answer) (finds : answer.found ≡ found) (is : bytes ≡ answer.text.items) where
  reason : IsReasonOn text asked found answer.text.items
  reason = record { answer = answer; on = on; finds = finds; is = refl }

  -- the whole of it
  pub explained : Appends (contents (device_of old)) (contents (device_of new)) bytes → HasExplained contents text asked found old new
  explained written = record {
    answer = answer.text.items;
    on = reason;
    written = subst (Appends (contents (device_of old)) (contents (device_of new))) is written;
  }

  -- a beginning of it
  pub begun : AppendsBeginning (contents (device_of old)) (contents (device_of new)) bytes → HasBegun contents text asked old new
  begun some =
      let part = subst (AppendsBeginning (contents (device_of old)) (contents (device_of new))) is some in (
        found,
        record { answer = part.front; on = (part.rest, subst (IsReasonOn text asked found) (sym part.parts) reason); written = part.appended },
      )

-- a failed read has status 3 or 4
pub failed_status : (before after : ℕ) (fault : RunFault) → IsReadFailure before after fault → 3 ≤ status_of fault
failed_status before after (faults.Read fault) failed = absurd failed
failed_status before after (faults.Plan fault) failed = absurd failed
failed_status before after faults.UnknownAgent failed = absurd failed
failed_status before after faults.OutOfMemory failed = omega arith
failed_status before after faults.InputFailed failed = omega arith
failed_status before after faults.OutputFailed failed = absurd failed
