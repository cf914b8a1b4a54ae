-- What the program prints about a text (this project's own).
use Rattle.std.specs.Prelude.{◌⊎◌, ◌<◌, ℕ, Bool, false, Option, List}
use Rattle.lit_report.specs.declared.counted.Counted.{Counted}
use Rattle.lit_report.specs.Counted.{device_of, failures_of}
use Rattle.lit_reason.specs.declared.fault.ReasonFault.TheVariants as reasons
use Rattle.lit_reason.specs.declared.question.Asked.{Asked}
use Rattle.lit_reason.specs.Explained.{IsFaultOn, IsReasonOn}
use Rattle.jslit.specs.declared.fault.RunFault.{RunFault}
use Rattle.jslit.specs.declared.fault.RunFault.TheVariants as faults
use Rattle.jslit.specs.Answer.{Begins, HasGrown, HasGrownRefusal}

-- what the fault of a refusal says of the text and of what is asked
abbrev pub IsRefusalOn : List ℕ → Asked → RunFault → Type 0
IsRefusalOn text asked (faults.Read fault) = IsFaultOn text asked (reasons.Read fault)
IsRefusalOn text asked (faults.Plan fault) = IsFaultOn text asked (reasons.Plan fault)
IsRefusalOn text asked faults.UnknownAgent = ⊥
IsRefusalOn text asked faults.OutOfMemory = ⊥
IsRefusalOn text asked faults.InputFailed = ⊥
IsRefusalOn text asked faults.OutputFailed = ⊥

-- the output took the whole answer to what is asked, which says whether there is a choice as it is asked for
abbrev pub HasExplained : {W : Type 0} → (W → Option (List ℕ)) → (text : List ℕ) → Asked → (found : Bool) → (old new : Counted W) → Type 0
HasExplained contents text asked found old new =
    HasGrown (IsReasonOn text asked found) (contents (device_of old)) (contents (device_of new))

-- the output took a beginning of the answer
abbrev pub HasBegun : {W : Type 0} → (W → Option (List ℕ)) → (text : List ℕ) → Asked → (old new : Counted W) → Type 0
HasBegun contents text asked old new =
    (found : Bool) × HasGrown (Begins (IsReasonOn text asked found)) (contents (device_of old)) (contents (device_of new))

-- the output took the answer that there is no such choice, or the line of what refuses the text
abbrev pub HasRefused : {W : Type 0} → (W → Option (List ℕ)) → (text : List ℕ) → Asked → (old new : Counted W) → Type 0
HasRefused contents text asked old new = HasExplained contents text asked false old new
    ⊎ HasGrownRefusal (IsRefusalOn text asked) (contents (device_of old)) (contents (device_of new)) (failures_of old < failures_of new)
