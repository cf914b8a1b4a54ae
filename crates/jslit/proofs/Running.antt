-- The effect of a run whose input could not be read, and of one that answers on a text.
use Rattle.std.proofs.Common.{◌≡◌, ◌≢◌, ◌⊎◌, ◌+◌, ◌-◌, ◌^◌, ◌<◌, ◌∙◌, inl, inr, ℕ, List, Option, Some, None, Ok, Err, IfErr, IsErrOf, OnOk, arith, refl, sym, ap, subst}
use Rattle.std.specs.declared.result.Result.{Result}
use Rattle.std.specs.Io.KnownBytes.{Consumes}
use Rattle.std.specs.Result.{IsErrAnd}
use Rattle.lit_syntax.specs.declared.limits.TheConstants.{TEXT_LIMIT}
use Rattle.jslit.specs.Answer.{Begins, HasGrown}
use Rattle.lit_report.specs.Counted.{device_of, failures_of, one_more}
use Rattle.jslit.specs.Devices.{ConsumesBeginning, IsReadFailure, IsInputText}
use Rattle.jslit.specs.RunAnswer.{HasRun}
use Rattle.jslit.specs.Internal.Answering.{IsOfTextOrWriting}
use Rattle.lit_report.specs.declared.counted.Counted.{Counted}
use Rattle.jslit.specs.declared.fault.RunFault.{RunFault}
use Rattle.jslit.specs.declared.fault.RunFault.TheVariants as faults
use Rattle.jslit.proofs.Refusals.{some_text}

output_or_not : (e : RunFault) → (e ≡ faults.OutputFailed) ⊎ (e ≢ faults.OutputFailed)
output_or_not faults.OutputFailed = inl refl
output_or_not e = inr (λ bad. absurd cc)

module _ {R W X : Type 0} (remaining : R → Option (List ℕ)) (contents : W → Option (List ℕ)) (Is : List ℕ → List ℕ → Type 0) (IsFault : List ℕ → RunFault → Type 0) where
  -- nothing was read to the end, and nothing written
  pub unread : ((text : List ℕ) → IsFault text faults.OutOfMemory) → ((text : List ℕ) → IsFault text faults.InputFailed)
      → (result : Result X RunFault) (fault : RunFault) (old_input new_input : Counted R) (out : Counted W) → IsErrAnd result (λ e. e ≡ fault)
      → IsReadFailure (failures_of old_input) (failures_of new_input) fault
      → ConsumesBeginning (remaining (device_of old_input)) (remaining (device_of new_input)) (TEXT_LIMIT + 1)
      → HasRun remaining contents Is IsFault result old_input new_input out out
  unread memory input (Ok x) fault old_input new_input out is failed consumed = absurd is
  unread memory input (Err e) fault old_input new_input out is failed consumed = by fault is failed
    where
      read : (text : List ℕ) × IsInputText (remaining (device_of old_input)) text
      read = some_text (remaining (device_of old_input))

      by : (f : RunFault) → e ≡ f → IsReadFailure (failures_of old_input) (failures_of new_input) f
          → HasRun {T = X} remaining contents Is IsFault (Err e) old_input new_input out out
      by faults.OutOfMemory is same = record {
        answered = tt;
        text = read.0;
        is_input = read.1;
        refused = subst (IsFault read.0) (sym is) (memory read.0);
        input_failed = ((λ bad. absurd cc, λ lt. absurd (omega (arith, same, lt))), omega (arith, same));
        output_failed = ((λ bad. absurd cc, λ lt. absurd (omega (arith, lt))), omega arith);
        begun = λ bad. absurd cc;
        unwritten = λ _. refl;
        read = record { few = consumed; whole = λ _ not_memory. absurd (not_memory (ap Err is)) };
      }
      by faults.InputFailed is lt = record {
        answered = tt;
        text = read.0;
        is_input = read.1;
        refused = subst (IsFault read.0) (sym is) (input read.0);
        input_failed = ((λ _. lt, λ _. ap Err is), omega (arith, lt));
        output_failed = ((λ bad. absurd cc, λ more. absurd (omega (arith, more))), omega arith);
        begun = λ bad. absurd cc;
        unwritten = λ _. refl;
        read = record { few = consumed; whole = λ not_input _. absurd (not_input (ap Err is)) };
      }
      by (faults.Read f) is failed = absurd failed
      by (faults.Plan f) is failed = absurd failed
      by faults.UnknownAgent is failed = absurd failed
      by faults.OutputFailed is failed = absurd failed

  -- a text was read, and answered on
  module _ (text : List ℕ) (old_input new_input : Counted R) (old new : Counted W) (told : IsInputText (remaining (device_of old_input)) text)
      (consumes : Consumes (remaining (device_of old_input)) (remaining (device_of new_input)) text) (same : failures_of new_input ≡ failures_of old_input)
      (consumed : ConsumesBeginning (remaining (device_of old_input)) (remaining (device_of new_input)) (TEXT_LIMIT + 1)) where
    pub ran : (result : Result X RunFault) → failures_of old < 2 ^ 64 - 1
        → OnOk result (HasGrown (Is text) (contents (device_of old)) (contents (device_of new))) → OnOk result (failures_of new ≡ failures_of old)
        → (IsErrOf result faults.OutputFailed → HasGrown (Begins (Is text)) (contents (device_of old)) (contents (device_of new)))
        → (IsErrOf result faults.OutputFailed → failures_of new ≡ one_more (failures_of old))
        → IfErr result (λ fault. fault ≢ faults.OutputFailed → new ≡ old) → IfErr result (IsFault text) → IfErr result IsOfTextOrWriting
        → HasRun remaining contents Is IsFault result old_input new_input old new
    ran (Ok x) small grown count begun rose unwritten refused of_text = record {
      text = text;
      is_input = told;
      answered = grown;
      refused = tt;
      input_failed = ((λ bad. absurd cc, λ lt. absurd (omega (arith, same, lt))), omega (arith, same));
      output_failed = ((λ bad. absurd cc, λ lt. absurd (omega (arith, count, lt))), omega (arith, count));
      begun = λ bad. absurd cc;
      unwritten = tt;
      read = record { few = consumed; whole = λ _ _. consumes };
    }
    ran (Err e) small grown count begun rose unwritten refused of_text = elim (output_or_not e) [
      | inl is ↦
          let more : failures_of new ≡ one_more (failures_of old) = rose (ap Err is) in record {
            text = text;
            is_input = told;
            answered = tt;
            refused = refused;
            input_failed = ((λ bad. absurd cc, λ lt. absurd (omega (arith, same, lt))), omega (arith, same));
            output_failed = ((λ _. omega (arith, more, small), λ _. ap Err is), omega (arith, more, small));
            begun = begun;
            unwritten = unwritten;
            read = record { few = consumed; whole = λ _ _. consumes };
          }
      | inr other ↦
          let unchanged : failures_of new ≡ failures_of old = ap failures_of (unwritten other) in record {
            text = text;
            is_input = told;
            answered = tt;
            refused = refused;
            input_failed = (
              (
                λ bad. let is : e ≡ faults.InputFailed = cc in absurd (subst IsOfTextOrWriting is of_text),
                λ lt. absurd (omega (arith, same, lt)),
              ),
              omega (arith, same),
            );
            output_failed = ((λ bad. let is : e ≡ faults.OutputFailed = cc in absurd (other is), λ lt. absurd (omega (arith, unchanged, lt))), omega (arith, unchanged));
            begun = λ bad. let is : e ≡ faults.OutputFailed = cc in absurd (other is);
            unwritten = unwritten;
            read = record { few = consumed; whole = λ _ _. consumes };
          }
    ]
