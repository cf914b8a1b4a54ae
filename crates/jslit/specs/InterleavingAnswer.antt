-- What a run of a schedule answers for the bytes of a text (this project's own).
use Rattle.std.specs.Prelude.{◌≡◌, ℕ, Option, Some, List, slice_get}
use Rattle.lit_syntax.specs.Syntax.{Litmus}
use Rattle.lit_read.specs.Faults.{IsFirstFault}
use Rattle.lit_read.specs.Spelling.{Spells}
use Rattle.lit_interleave.specs.Interleaving.{interleaved}
use Rattle.lit_search.specs.Report.{Entry, Report}
use Rattle.jslit.specs.declared.fault.RunFault.{RunFault}
use Rattle.jslit.specs.declared.fault.RunFault.TheVariants as faults
use Rattle.jslit.specs.Answer.{Begins, HasGrown}
use Rattle.lit_report.specs.ReportText.{interleaving_text}
use Rattle.jslit.specs.Schedule.{NamesAgents, NamesNoAgents}

-- The text spells a test, the schedule names agents of it, and the answer is the text of the outcome that they have in
-- these turns.
pub record IsInterleavingOn (schedule text answer : List ℕ) : Type 0 where
  pub test : Litmus
  pub spelled : Spells text test
  pub agents : List ℕ
  pub named : NamesAgents test schedule agents
  pub is : answer ≡ interleaving_text test (interleaved test agents)

-- the answer is that of an outcome in the report
abbrev pub IsOfEntry : Litmus → Report → List ℕ → Type 0
IsOfEntry t report answer =
    (i : ℕ) × (entry : Entry) × (slice_get report.entries i ≡ Some entry) × (answer ≡ interleaving_text t entry.outcome)

-- the text spells a test, and the schedule names no agents of it
pub record IsScheduleRefused (schedule text : List ℕ) : Type 0 where
  pub test : Litmus
  pub spelled : Spells text test
  pub unknown : NamesNoAgents test schedule

-- what a fault says of the schedule and the text
abbrev pub IsScheduleFaultOn : (schedule text : List ℕ) → RunFault → Type 0
IsScheduleFaultOn schedule text (faults.Read fault) = IsFirstFault text fault.kind fault.line
IsScheduleFaultOn schedule text (faults.Plan fault) = ⊥
IsScheduleFaultOn schedule text faults.UnknownAgent = IsScheduleRefused schedule text
IsScheduleFaultOn schedule text faults.OutOfMemory = Unit {0}
IsScheduleFaultOn schedule text faults.InputFailed = Unit {0}
IsScheduleFaultOn schedule text faults.OutputFailed = Unit {0}

-- known bytes grew by the answer for the schedule and the text
abbrev pub HasInterleaved : (schedule text : List ℕ) → (old new : Option (List ℕ)) → Type 0
HasInterleaved schedule text old new = HasGrown (IsInterleavingOn schedule text) old new

-- known bytes grew by a beginning of it
abbrev pub HasInterleavedSome : (schedule text : List ℕ) → (old new : Option (List ℕ)) → Type 0
HasInterleavedSome schedule text old new = HasGrown (Begins (IsInterleavingOn schedule text)) old new
