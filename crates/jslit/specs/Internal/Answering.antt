-- The effect of writing the answer for a test.
use Rattle.std.specs.Prelude.{Bool, MatchBool, Option, IfSome, List, ℕ}
use Rattle.std.specs.Io.KnownBytes.{Appends}
use Rattle.lit_syntax.specs.Syntax.{Litmus}
use Rattle.lit_valid.specs.declared.class.Class.{Class}
use Rattle.lit_search.specs.Report.{Report}
use Rattle.jslit.specs.declared.fault.RunFault.{RunFault}
use Rattle.jslit.specs.declared.fault.RunFault.TheVariants as faults
use Rattle.jslit.specs.Answer.{IsQuickReportOf, IsReportOf}
use Rattle.lit_report.specs.Writing.{AppendsBeginning}
use Rattle.jslit.specs.QuickAnswer.{IsFirst}
use Rattle.lit_report.specs.Internal.FirstEntry.{IsOnlyEntry, entry_of_option}

-- the answer is the test's quick report, or else the whole one
abbrev pub IsAnswerOf : (quick : Bool) → (test : Litmus) → (answer : List ℕ) → Type 0
IsAnswerOf quick test answer = MatchBool quick (IsQuickReportOf test answer) (IsReportOf test answer)

-- known bytes grew by the answer for a test
pub record HasWritten (quick : Bool) (test : Litmus) (old new : Option (List ℕ)) : Type 0 where
  pub answer : List ℕ
  pub of_test : IsAnswerOf quick test answer
  pub written : Appends old new answer

-- known bytes grew by a beginning of it
pub record HasWrittenSome (quick : Bool) (test : Litmus) (old new : Option (List ℕ)) : Type 0 where
  pub answer : List ℕ
  pub of_test : IsAnswerOf quick test answer
  pub begun : AppendsBeginning old new answer

-- memory ran out, or a write failed
abbrev pub IsOfWriting : RunFault → Type 0
IsOfWriting (faults.Read fault) = ⊥
IsOfWriting (faults.Plan fault) = ⊥
IsOfWriting faults.UnknownAgent = ⊥
IsOfWriting faults.OutOfMemory = Unit {0}
IsOfWriting faults.InputFailed = ⊥
IsOfWriting faults.OutputFailed = Unit {0}

-- the input has not failed
abbrev pub IsOfTextOrWriting : RunFault → Type 0
IsOfTextOrWriting (faults.Read fault) = Unit {0}
IsOfTextOrWriting (faults.Plan fault) = Unit {0}
IsOfTextOrWriting faults.UnknownAgent = Unit {0}
IsOfTextOrWriting faults.OutOfMemory = Unit {0}
IsOfTextOrWriting faults.InputFailed = ⊥
IsOfTextOrWriting faults.OutputFailed = Unit {0}

-- the report of the first choice of a class alone, if there is one
pub record IsFirstFound (t : Litmus) (class : Class) (found : Option Report) : Type 0 where
  pub entry : IfSome found (IsOnlyEntry t)
  pub first : IsFirst t class (entry_of_option found)
