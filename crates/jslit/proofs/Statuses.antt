-- What the program's status says.
use Rattle.std.proofs.Common.{◌≡◌, inl, inr, ℕ, List, [], Option, refl, subst, sym}
use Rattle.std.proofs.lemmas.List.{append-nil}
use Rattle.lit_report.specs.Writing.{AppendsBeginning}
use Rattle.jslit.specs.declared.fault.RunFault.{RunFault}
use Rattle.jslit.specs.declared.fault.RunFault.TheVariants as faults
use Rattle.jslit.specs.Answer.{Begins, HasGrown, IsCheckStatus, status_of}

-- no fault gives the status of a report
pub never_zero : (fault : RunFault) → status_of fault ≡ 0 → ⊥
never_zero (faults.Read f) is = absurd cc
never_zero (faults.Plan f) is = absurd cc
never_zero faults.UnknownAgent is = absurd cc
never_zero faults.OutOfMemory is = absurd cc
never_zero faults.InputFailed is = absurd cc
never_zero faults.OutputFailed is = absurd cc

-- a refusal of the text is not a failed write
pub refusal_of_text : (fault : RunFault) → status_of fault ≡ 1 → fault ≡ faults.OutputFailed → ⊥
refusal_of_text (faults.Read f) is output = absurd cc
refusal_of_text (faults.Plan f) is output = absurd cc
refusal_of_text faults.UnknownAgent is output = absurd cc
refusal_of_text faults.OutOfMemory is output = absurd cc
refusal_of_text faults.InputFailed is output = absurd cc
refusal_of_text faults.OutputFailed is output = absurd cc

-- the status 4 is that of a device that failed
pub failed_device : (fault : RunFault) (A : Type 0) → status_of fault ≡ 4 → (fault ≡ faults.InputFailed → A) → (fault ≡ faults.OutputFailed → A) → A
failed_device (faults.Read f) A is input output = absurd cc
failed_device (faults.Plan f) A is input output = absurd cc
failed_device faults.UnknownAgent A is input output = absurd cc
failed_device faults.OutOfMemory A is input output = absurd cc
failed_device faults.InputFailed A is input output = input refl
failed_device faults.OutputFailed A is input output = output refl

-- a beginning of an answer was written
pub has_begun : (Is : List ℕ → Type 0) (old new : Option (List ℕ)) (answer : List ℕ) → Is answer → AppendsBeginning old new answer → HasGrown (Begins Is) old new
has_begun Is old new answer is some = record { answer = some.front; on = (some.rest, subst Is (sym some.parts) is); written = some.appended }

-- all of an answer is a beginning of it
pub whole_begins : (Is : List ℕ → Type 0) (old new : Option (List ℕ)) → HasGrown Is old new → HasGrown (Begins Is) old new
whole_begins Is old new whole = record { answer = whole.answer; on = ([], subst Is (sym (append-nil whole.answer)) whole.on); written = whole.written }

-- each fault has a status of checking a text
pub check_status_of : (fault : RunFault) (status : ℕ) → status ≡ status_of fault → IsCheckStatus status
check_status_of (faults.Read f) status is = inr (inl is)
check_status_of (faults.Plan f) status is = inr (inl is)
check_status_of faults.UnknownAgent status is = inr (inl is)
check_status_of faults.OutOfMemory status is = inr (inr (inl is))
check_status_of faults.InputFailed status is = inr (inr (inr is))
check_status_of faults.OutputFailed status is = inr (inr (inr is))
