-- What a run answers for the bytes of a text (this project's own).
use Rattle.std.specs.Prelude.{◌≡◌, ◌⊎◌, ℕ, Bool, MatchBool, Option, is_some, List, [], ◌++◌, length, map, Contains}
use Rattle.std.specs.Io.KnownBytes.{Appends}
use Rattle.lit_syntax.specs.Syntax.{Litmus}
use Rattle.lit_read.specs.Faults.{IsFirstFault}
use Rattle.lit_read.specs.Spelling.{Spells}
use Rattle.lit_paths.specs.Choice.{choices_of}
use Rattle.lit_paths.specs.declared.fault.PlanFault.{PlanFault}
use Rattle.lit_paths.specs.Refusal.{IsRefusal}
use Rattle.lit_search.specs.Report.{Entry, Report, IsReport, in_range}
use Rattle.lit_valid.specs.declared.class.Class.TheVariants.{Met, Unmet}
use Rattle.lit_paths.specs.Execution.{Execution, execution_outcome}
use Rattle.lit_valid.specs.ValidExecution.{IsValidExecution}
use Rattle.jslit.specs.declared.fault.RunFault.{RunFault}
use Rattle.jslit.specs.declared.fault.RunFault.TheVariants as faults
use Rattle.lit_report.specs.declared.verdict.Verdict.{Verdict}
use Rattle.lit_report.specs.Writing.{AppendsBeginning}
use Rattle.jslit.specs.QuickAnswer.{IsFirst}
use Rattle.lit_report.specs.ReportText.{report_text, quick_text}
use Rattle.lit_report.specs.RefusalText.{plan_fault_line, read_fault_line, unknown_agent_line}
use Rattle.lit_report.specs.Verdict.{IsVerdict, verdict_of}

-- each valid execution of the test has its outcome in the report
abbrev pub IsComplete : Litmus → Report → Type 0
IsComplete t report =
    (x : Execution) → IsValidExecution t x → Contains (map (λ entry. entry.outcome) report.entries) (execution_outcome t x)

-- The answer is the text of the test's report on all its choices and of the verdict that is true of it.
pub record IsReportOf (test : Litmus) (answer : List ℕ) : Type 0 where
  pub report : Report
  pub reported : IsReport test (in_range 0 (length (choices_of test))) report
  pub complete : IsComplete test report
  pub verdict : Verdict
  pub judged : IsVerdict test report verdict
  pub is : answer ≡ report_text test report verdict

-- The answer is the text of the first entries of both classes and of the verdict, which is that of the test's report.
pub record IsQuickReportOf (test : Litmus) (answer : List ℕ) : Type 0 where
  pub met : Option Entry
  pub unmet : Option Entry
  pub first_met : IsFirst test Met met
  pub first_unmet : IsFirst test Unmet unmet
  pub judged : (report : Report) → IsReport test (in_range 0 (length (choices_of test))) report
      → IsVerdict test report (verdict_of (is_some met) (is_some unmet))
  pub is : answer ≡ quick_text test met unmet (verdict_of (is_some met) (is_some unmet))

-- The text spells a test whose plan is not refused, and the answer is the test's quick report, or else the whole one.
pub record IsAnswerOn (quick : Bool) (text answer : List ℕ) : Type 0 where
  pub test : Litmus
  pub spelled : Spells text test
  pub planned : (fault : PlanFault) → ¬ IsRefusal test fault
  pub of_test : MatchBool quick (IsQuickReportOf test answer) (IsReportOf test answer)

-- What a fault says of the text: that it is the first one, or that the text spells a test that is refused so.
abbrev pub IsFaultOn : List ℕ → RunFault → Type 0
IsFaultOn text (faults.Read fault) = IsFirstFault text fault.kind fault.line
IsFaultOn text (faults.Plan fault) = (test : Litmus) × Spells text test × IsRefusal test fault
IsFaultOn text faults.UnknownAgent = ⊥
IsFaultOn text faults.OutOfMemory = Unit {0}
IsFaultOn text faults.InputFailed = Unit {0}
IsFaultOn text faults.OutputFailed = Unit {0}

-- known bytes grew by an answer of this kind
pub record HasGrown (IsAnswer : List ℕ → Type 0) (old new : Option (List ℕ)) : Type 0 where
  pub answer : List ℕ
  pub on : IsAnswer answer
  pub written : Appends old new answer

-- these bytes are a beginning of an answer of this kind
abbrev pub Begins : (List ℕ → Type 0) → List ℕ → Type 0
Begins IsAnswer front = (rest : List ℕ) × IsAnswer (front ++ rest)

-- known bytes grew by a report on the text, quick or whole
abbrev pub HasReported : (quick : Bool) → (text : List ℕ) → (old new : Option (List ℕ)) → Type 0
HasReported quick text old new = HasGrown (IsAnswerOn quick text) old new

-- known bytes grew by a beginning of a report on the text, quick or whole
abbrev pub HasBegun : (quick : Bool) → (text : List ℕ) → (old new : Option (List ℕ)) → Type 0
HasBegun quick text old new = HasGrown (Begins (IsAnswerOn quick text)) old new

-- the status that the program gives for a fault
abbrev pub status_of : RunFault → ℕ
status_of (faults.Read fault) = 1
status_of (faults.Plan fault) = 1
status_of faults.UnknownAgent = 1
status_of faults.OutOfMemory = 3
status_of faults.InputFailed = 4
status_of faults.OutputFailed = 4

-- the line of a fault that refuses a text, its test or a schedule, and of no other fault
abbrev pub refusal_line : RunFault → List ℕ
refusal_line (faults.Read fault) = read_fault_line fault
refusal_line (faults.Plan fault) = plan_fault_line fault
refusal_line faults.UnknownAgent = unknown_agent_line
refusal_line faults.OutOfMemory = []
refusal_line faults.InputFailed = []
refusal_line faults.OutputFailed = []

-- known bytes grew by the line of a refusal of this kind; where a write failed, by a beginning of that line
pub record HasGrownRefusal (IsFault : RunFault → Type 0) (old new : Option (List ℕ)) (failed : Type 0) : Type 0 where
  pub fault : RunFault
  pub refusal : status_of fault ≡ 1
  pub on : IsFault fault
  pub written : ¬ failed → Appends old new (refusal_line fault)
  pub begun : failed → AppendsBeginning old new (refusal_line fault)

-- what checking a text can give as a status
abbrev pub IsCheckStatus : ℕ → Type 0
IsCheckStatus n = (n ≡ 0) ⊎ (n ≡ 1) ⊎ (n ≡ 3) ⊎ (n ≡ 4)

-- what the program can give as its status
abbrev pub IsStatus : ℕ → Type 0
IsStatus n = IsCheckStatus n ⊎ (n ≡ 2)
