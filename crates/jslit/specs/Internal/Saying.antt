-- The effect of printing the line of a fault.
use Rattle.std.specs.Prelude.{◌≡◌, ◌≢◌, ◌<◌, Option, List, ℕ}
use Rattle.lit_report.specs.declared.counted.Counted.{Counted}
use Rattle.jslit.specs.declared.fault.RunFault.{RunFault}
use Rattle.jslit.specs.Answer.{status_of}
use Rattle.lit_report.specs.Counted.{device_of, failures_of}
use Rattle.jslit.specs.RunAnswer.{HasSaid}

-- The status is that of the fault. The output took the line of a refusal, and else nothing.
pub record IsFaultSaid {W : Type 0} (contents : W → Option (List ℕ)) (status : ℕ) (old new : Counted W) (fault : RunFault) : Type 0 where
  pub status_is : status ≡ status_of fault
  pub refused : status ≡ 1 → HasSaid fault (contents (device_of old)) (contents (device_of new)) (failures_of old < failures_of new)
  pub unchanged : status ≢ 1 → new ≡ old
