-- Why there is no answer, and what that says of the text (this project's own).
use Rattle.std.specs.Prelude.{◌≡◌, ◌≢◌}
use Rattle.lit_read.specs.declared.fault.ReadFault.{ReadFault}
use Rattle.lit_read.specs.declared.fault.ReadKind.TheVariants as kinds
use Rattle.lit_paths.specs.declared.fault.PlanFault.{PlanFault}
use Rattle.lit_paths.specs.declared.fault.PlanFault.TheVariants as plan_faults
use Rattle.lit_reason.specs.declared.fault.ReasonFault.{ReasonFault}
use Rattle.lit_reason.specs.declared.fault.ReasonFault.TheVariants as faults

-- a fault of the reader, as a fault of the answer
pub record IsOfReader (fault : ReadFault) (result : ReasonFault) : Type 0 where
  pub memory : fault.kind ≡ kinds.OutOfMemory → result ≡ faults.OutOfMemory
  pub given : fault.kind ≢ kinds.OutOfMemory → result ≡ faults.Read fault

-- a fault of the plan, as a fault of the answer
pub record IsOfPlan (fault : PlanFault) (result : ReasonFault) : Type 0 where
  pub memory : fault ≡ plan_faults.OutOfMemory → result ≡ faults.OutOfMemory
  pub given : fault ≢ plan_faults.OutOfMemory → result ≡ faults.Plan fault
