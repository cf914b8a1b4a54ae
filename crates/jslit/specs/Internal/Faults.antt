-- Which faults a run can have, and where they come from.
use Rattle.std.specs.Prelude.{◌≡◌, ◌≢◌}
use Rattle.lit_read.specs.declared.fault.ReadFault.{ReadFault}
use Rattle.lit_read.specs.declared.fault.ReadKind.TheVariants as kinds
use Rattle.lit_paths.specs.declared.fault.PlanFault.{PlanFault}
use Rattle.lit_paths.specs.declared.fault.PlanFault.TheVariants as plan_faults
use Rattle.jslit.specs.declared.fault.RunFault.{RunFault}
use Rattle.jslit.specs.declared.fault.RunFault.TheVariants as faults

-- a fault of the reader, as a fault of a run
pub record IsOfReader (fault : ReadFault) (result : RunFault) : Type 0 where
  pub memory : fault.kind ≡ kinds.OutOfMemory → result ≡ faults.OutOfMemory
  pub given : fault.kind ≢ kinds.OutOfMemory → result ≡ faults.Read fault

-- a fault of the plan, as a fault of a run
pub record IsOfPlan (fault : PlanFault) (result : RunFault) : Type 0 where
  pub memory : fault ≡ plan_faults.OutOfMemory → result ≡ faults.OutOfMemory
  pub given : fault ≢ plan_faults.OutOfMemory → result ≡ faults.Plan fault
