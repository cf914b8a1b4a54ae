-- The results of reading a schedule.
use Rattle.std.specs.Prelude.{◌≢◌, ◌<◌, ℕ, Option, Some, None, List, [], ◌∷◌, length}
use Rattle.lit_syntax.specs.Syntax.{Litmus, agent_of}
use Rattle.jslit.specs.declared.fault.RunFault.{RunFault}
use Rattle.jslit.specs.declared.fault.RunFault.TheVariants as faults
use Rattle.jslit.specs.Schedule.{NamesNoAgents}

-- a comma and what stands behind it, if there is one
abbrev pub behind_comma : Option (List ℕ) → List ℕ
behind_comma None = []
behind_comma (Some rest) = 44 ∷ rest

-- no agent of the test has this name
abbrev pub NamesNone : Litmus → List ℕ → Type 0
NamesNone t name = (agent : ℕ) → agent < length t.agents → (agent_of t agent).name ≢ name

-- memory ran out, or the schedule names no agents of the test
abbrev pub IsOfSchedule : Litmus → List ℕ → RunFault → Type 0
IsOfSchedule t schedule (faults.Read fault) = ⊥
IsOfSchedule t schedule (faults.Plan fault) = ⊥
IsOfSchedule t schedule faults.UnknownAgent = NamesNoAgents t schedule
IsOfSchedule t schedule faults.OutOfMemory = Unit {0}
IsOfSchedule t schedule faults.InputFailed = ⊥
IsOfSchedule t schedule faults.OutputFailed = ⊥
