-- The effect of a run that is finished: its output is flushed, or its fault is printed.
use Rattle.std.proofs.Common.{◌≡◌, ◌≢◌, ◌⊎◌, ◌<◌, ◌≤◌, ◌∙◌, inl, inr, ℕ, List, Option, Ok, Err, OnOk, IfErr, IsErrOf, arith, sym, ap, subst}
use Rattle.std.specs.declared.result.Result.{Result}
use Rattle.std.specs.Io.KnownBytes.{Keeps}
use Rattle.std.proofs.lemmas.Bool.{cases_lt}
use Rattle.std.proofs.KnownBytes.{Appends-kept}
use Rattle.jslit.specs.Answer.{Begins, HasGrown, HasGrownRefusal, IsCheckStatus, status_of}
use Rattle.lit_report.specs.Counted.{device_of, failures_of}
use Rattle.jslit.specs.Devices.{IsInputText, OfInputText}
use Rattle.jslit.specs.RunAnswer.{HasRun, HasSaid, HasServed}
use Rattle.jslit.specs.Internal.Saying.{IsFaultSaid}
use Rattle.lit_report.specs.declared.counted.Counted.{Counted}
use Rattle.jslit.specs.declared.fault.RunFault.{RunFault}
use Rattle.jslit.specs.declared.fault.RunFault.TheVariants as faults
use Rattle.jslit.proofs.Statuses.{check_status_of, failed_device, never_zero, refusal_of_text, whole_begins}

-- A run on this text, of this kind of answers and faults, took the output from old to mid, and finishing it from there to new.
module _ {W : Type 0} (contents : W → Option (List ℕ)) (remaining : Option (List ℕ)) (text : List ℕ) (told : IsInputText remaining text)
    (Is : List ℕ → List ℕ → Type 0) (IsFault : List ℕ → RunFault → Type 0) (old mid new : Counted W) (status : ℕ) where
  abbrev Flushed : Type 0
  Flushed = ((status ≡ 0) ⊎ (status ≡ 4)) × Keeps (contents (device_of mid)) (contents (device_of new))

  -- a device that held this much, and now holds that
  abbrev Has : ((text answer : List ℕ) → Type 0) → Counted W → Counted W → Type 0
  Has Kind a b = HasGrown (Kind text) (contents (device_of a)) (contents (device_of b))

  on_text : (Holds : List ℕ → Type 0) → Holds text → OfInputText remaining Holds
  on_text Holds holds = record { text = text; is_input = told; holds = holds }

  -- a flushed answer is still there
  flushed_answer : Has Is old mid → Flushed → Has Is old new
  flushed_answer some flushed = record {
    answer = some.answer;
    on = some.on;
    written = Appends-kept (contents (device_of old)) _ _ some.answer some.written flushed.1;
  }

  finished_answer : {X : Type 0} (ran : Result X RunFault) → OnOk ran (Has Is old mid) → OnOk ran Flushed → IfErr ran (IsFaultSaid contents status mid new)
      → status ≡ 0 → OfInputText remaining (λ text. HasGrown (Is text) (contents (device_of old)) (contents (device_of new)))
  finished_answer (Ok u) some flushed said is = on_text _ (flushed_answer some flushed)
  finished_answer (Err fault) some flushed said is = absurd (never_zero fault (sym said.status_is ∙ is))

  finished_refusal : {X : Type 0} (ran : Result X RunFault) → OnOk ran Flushed → IfErr ran (IsFault text)
      → IfErr ran (λ fault. fault ≢ faults.OutputFailed → mid ≡ old) → IfErr ran (IsFaultSaid contents status mid new) → status ≡ 1
      → OfInputText remaining (λ text. HasGrownRefusal (IsFault text) (contents (device_of old)) (contents (device_of new)) (failures_of old < failures_of new))
  finished_refusal (Ok u) flushed refused unwritten said is = elim flushed.0 [
    | inl zero ↦ absurd (omega (arith, zero, is))
    | inr four ↦ absurd (omega (arith, four, is))
  ]
  finished_refusal (Err fault) flushed refused unwritten said is =
      let refusal = sym said.status_is ∙ is in
      let same = unwritten (refusal_of_text fault refusal) in
      let line : HasSaid fault (contents (device_of old)) (contents (device_of new)) (failures_of old < failures_of new) =
      subst (λ (o : Counted W). HasSaid fault (contents (device_of o)) (contents (device_of new)) (failures_of o < failures_of new)) same (said.refused is) in
      on_text _ (record { fault = fault; refusal = refusal; on = refused; written = line.written; begun = line.begun })

  finished_failure : {X : Type 0} (Input : Type 0) (ran : Result X RunFault) → OnOk ran (Has Is old mid) → OnOk ran Flushed → IfErr ran (IsFaultSaid contents status mid new)
      → (IsErrOf ran faults.InputFailed → Input) → (IsErrOf ran faults.OutputFailed → failures_of old < failures_of mid) → status ≡ 4
      → Input ⊎ (failures_of old < failures_of new) ⊎ OfInputText remaining (λ text. HasGrown (Is text) (contents (device_of old)) (contents (device_of new)))
  finished_failure Input (Ok u) some flushed said input output is = inr (inr (on_text _ (flushed_answer some flushed)))
  finished_failure Input (Err fault) some flushed said input output is =
      let same = said.unchanged (λ one. absurd (omega (arith, is, one))) in
      failed_device fault _ (sym said.status_is ∙ is) (λ of_input. inl (input (ap Err of_input)))
      (λ of_output. inr (inl (subst (λ (o : Counted W). failures_of old < failures_of o) (sym same) (output (ap Err of_output)))))

  finished_beginning : {X : Type 0} (ran : Result X RunFault) → OnOk ran (Has Is old mid) → OnOk ran Flushed → IfErr ran (IsFaultSaid contents status mid new)
      → IfErr ran (λ fault. fault ≢ faults.OutputFailed → mid ≡ old)
      → (IsErrOf ran faults.OutputFailed → HasGrown (Begins (Is text)) (contents (device_of old)) (contents (device_of mid))) → status ≡ 4
      → (new ≡ old) ⊎ OfInputText remaining (λ text. HasGrown (Begins (Is text)) (contents (device_of old)) (contents (device_of new)))
  finished_beginning (Ok u) some flushed said unwritten begun is =
      inr (on_text _ (whole_begins (Is text) (contents (device_of old)) (contents (device_of new)) (flushed_answer some flushed)))
  finished_beginning (Err fault) some flushed said unwritten begun is =
      let same = said.unchanged (λ one. absurd (omega (arith, is, one))) in
      failed_device fault _ (sym said.status_is ∙ is)
      (λ of_input. inl (same ∙ unwritten (λ output. let bad : faults.InputFailed ≡ faults.OutputFailed = sym of_input ∙ output in absurd cc)))
      (λ of_output.
      let part = begun (ap Err of_output) in
      inr (on_text _ (record { answer = part.answer; on = part.on; written = rw same part.written })))

  -- no write failed where the answer is whole
  finished_unfailed : {X : Type 0} (ran : Result X RunFault) → (failures_of old < failures_of mid → IsErrOf ran faults.OutputFailed) → failures_of old ≤ failures_of mid
      → OnOk ran (failures_of new ≡ failures_of mid) → IfErr ran (IsFaultSaid contents status mid new) → status ≡ 0 → failures_of new ≡ failures_of old
  finished_unfailed (Ok u) failed count unchanged said is = elim (cases_lt (failures_of old) (failures_of mid)) [
    | inl lt ↦
        let bad : Ok u ≡ Err faults.OutputFailed = failed lt in
        absurd cc
    | inr ge ↦
        let same : failures_of mid ≡ failures_of old = omega arith in
        unchanged ∙ same
  ]
  finished_unfailed (Err fault) failed count unchanged said is = absurd (never_zero fault (sym said.status_is ∙ is))

  -- where the input failed, nothing was written
  finished_unwritten : {X : Type 0} (ran : Result X RunFault) → IsErrOf ran faults.InputFailed → IfErr ran (λ fault. fault ≢ faults.OutputFailed → mid ≡ old)
      → IfErr ran (IsFaultSaid contents status mid new) → (status ≡ 4) × (new ≡ old)
  finished_unwritten (Ok u) is unwritten said = let bad : Ok u ≡ Err faults.InputFailed = is in absurd cc
  finished_unwritten (Err fault) is unwritten said =
      let same : fault ≡ faults.InputFailed = cc in
      let four : status ≡ 4 = said.status_is ∙ ap status_of same in (
        four,
        said.unchanged (λ one. absurd (omega (arith, four, one)))
            ∙ unwritten (λ output. let bad : faults.InputFailed ≡ faults.OutputFailed = sym same ∙ output in absurd cc),
      )

pub finished : {R W X : Type 0} (remaining : R → Option (List ℕ)) (contents : W → Option (List ℕ)) (Is : List ℕ → List ℕ → Type 0) (IsFault : List ℕ → RunFault → Type 0)
    (ran : Result X RunFault) (old_input new_input : Counted R) (old mid new : Counted W) (status : ℕ)
    → HasRun remaining contents Is IsFault ran old_input new_input old mid → OnOk ran (failures_of new ≡ failures_of mid)
    → OnOk ran (((status ≡ 0) ⊎ (status ≡ 4)) × Keeps (contents (device_of mid)) (contents (device_of new)))
    → IfErr ran (IsFaultSaid contents status mid new)
    → HasServed contents (remaining (device_of old_input)) (failures_of old_input < failures_of new_input) Is IsFault status old new
finished remaining contents Is IsFault ran old_input new_input old mid new status run counted flushed said =
    let left = remaining (device_of old_input) in record {
      answered = finished_answer contents left run.text run.is_input Is IsFault old mid new status ran run.answered flushed said;
      refused = finished_refusal contents left run.text run.is_input Is IsFault old mid new status ran flushed run.refused run.unwritten said;
      unfailed = finished_unfailed contents left run.text run.is_input Is IsFault old mid new status ran run.output_failed.0.1 run.output_failed.1 counted said;
      failed = finished_failure contents left run.text run.is_input Is IsFault old mid new status (failures_of old_input < failures_of new_input) ran run.answered flushed said
          run.input_failed.0.0 run.output_failed.0.0;
      begun = finished_beginning contents left run.text run.is_input Is IsFault old mid new status ran run.answered flushed said run.unwritten run.begun;
      unwritten = λ failed. finished_unwritten contents left run.text run.is_input Is IsFault old mid new status ran (run.input_failed.0.1 failed) run.unwritten said;
    }

-- memory ran out before a run
pub nothing_served : {W : Type 0} (contents : W → Option (List ℕ)) (told : Option (List ℕ)) (input_failed : Type 0) (Is : List ℕ → List ℕ → Type 0)
    (IsFault : List ℕ → RunFault → Type 0) (status : ℕ) (old new : Counted W) → status ≡ 3 → ¬ input_failed
    → HasServed contents told input_failed Is IsFault status old new
nothing_served contents told input_failed Is IsFault status old new is unfailed = record {
  answered = λ zero. absurd (omega (arith, is, zero));
  refused = λ one. absurd (omega (arith, is, one));
  unfailed = λ zero. absurd (omega (arith, is, zero));
  failed = λ four. absurd (omega (arith, is, four));
  begun = λ four. absurd (omega (arith, is, four));
  unwritten = λ failed. absurd (unfailed failed);
}

-- a run that is finished has a status of checking a text
pub finished_status : {W X : Type 0} (contents : W → Option (List ℕ)) (ran : Result X RunFault) (mid new : Counted W) (status : ℕ)
    → OnOk ran (((status ≡ 0) ⊎ (status ≡ 4)) × Keeps (contents (device_of mid)) (contents (device_of new)))
    → IfErr ran (IsFaultSaid contents status mid new)
    → IsCheckStatus status
finished_status contents (Ok u) mid new status flushed said = elim flushed.0 [ inl zero ↦ inl zero | inr four ↦ inr (inr (inr four)) ]
finished_status contents (Err fault) mid new status flushed said = check_status_of fault status said.status_is

-- where memory ran out, the output is as it was
pub finished_memory : {W X : Type 0} (contents : W → Option (List ℕ)) (ran : Result X RunFault) (old mid new : Counted W) (status : ℕ)
    → OnOk ran (((status ≡ 0) ⊎ (status ≡ 4)) × Keeps (contents (device_of mid)) (contents (device_of new)))
    → IfErr ran (IsFaultSaid contents status mid new)
    → IfErr ran (λ fault. fault ≢ faults.OutputFailed → mid ≡ old) → status ≡ 3 → new ≡ old
finished_memory contents (Ok u) old mid new status flushed said unwritten is = elim flushed.0 [
  | inl zero ↦ absurd (omega (arith, zero, is))
  | inr four ↦ absurd (omega (arith, four, is))
]
finished_memory contents (Err fault) old mid new status flushed said unwritten is =
    let three = sym said.status_is ∙ is in
    said.unchanged (λ one. absurd (omega (arith, is, one))) ∙ unwritten (λ output. absurd (omega (arith, three, ap status_of output)))

-- a refusal still has room to be counted
pub room_left : {W X : Type 0} (ran : Result X RunFault) (old mid : Counted W) (limit : ℕ)
    → IfErr ran (λ fault. fault ≢ faults.OutputFailed → mid ≡ old)
    → failures_of old < limit → IfErr ran (λ fault. status_of fault ≡ 1 → failures_of mid < limit)
room_left (Ok u) old mid limit unwritten room = tt
room_left (Err fault) old mid limit unwritten room =
    λ refusal. let same = ap failures_of (unwritten (refusal_of_text fault refusal)) in omega (arith, same, room)
