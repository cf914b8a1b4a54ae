-- What an answer to a question, or the lack of one, says of the text (this project's own).
use Rattle.std.specs.Prelude.{◌≡◌, ◌≢◌, ◌≤◌, Bool, true, false, None, IfSome, ℕ, List, nat_lt, length}
use Rattle.lit_syntax.specs.Syntax.{Litmus}
use Rattle.lit_read.specs.Faults.{IsFirstFault}
use Rattle.lit_read.specs.declared.fault.ReadFault.{ReadFault}
use Rattle.lit_read.specs.Spelling.{Spells}
use Rattle.lit_paths.specs.Choice.{combinations_of, choices_of}
use Rattle.lit_paths.specs.declared.limits.TheConstants.{COMBINATION_LIMIT, CHOICE_LIMIT}
use Rattle.lit_paths.specs.Refusal.{HasFewEvents, IsRefusal}
use Rattle.lit_paths.specs.declared.fault.PlanFault.{PlanFault}
use Rattle.lit_reason.specs.AnswerText.{IsTextOn}
use Rattle.lit_reason.specs.OtherCondition.{IsAskedAbout, IsTextWith}
use Rattle.lit_reason.specs.declared.explanation.Answer.{Answer}
use Rattle.lit_reason.specs.declared.fault.ReasonFault.{ReasonFault}
use Rattle.lit_reason.specs.declared.fault.ReasonFault.TheVariants as faults
use Rattle.lit_reason.specs.declared.question.Asked.{Asked}
use Rattle.lit_reason.specs.declared.question.Question.{Question}
use Rattle.lit_reason.specs.declared.question.Question.TheVariants.{InClass, Race, OfChoice, OfSources}

-- whether there is a choice as a question asks for it; of the words for sources nothing is said
abbrev pub IsFoundOn : Litmus → Question → Bool → Type 0
IsFoundOn t (InClass class) found = found ≡ true
IsFoundOn t Race found = found ≡ true
IsFoundOn t (OfChoice choice) found = found ≡ nat_lt choice (length (choices_of t))
IsFoundOn t (OfSources words) found = Unit {0}

-- the test is not refused
abbrev pub IsWithinLimits : Litmus → Type 0
IsWithinLimits t = HasFewEvents t × (length (combinations_of t) ≤ COMBINATION_LIMIT) × (length (choices_of t) ≤ CHOICE_LIMIT)

-- The test that is asked about isn't refused, `found` is true of it, and so is an answer in words.
pub record HasAnswerOn (text : List ℕ) (asked : Asked) (answer : Answer) : Type 0 where
  pub test : Litmus
  pub about : IsAskedAbout text asked test
  pub planned : IsWithinLimits test
  pub found : IsFoundOn test asked.question answer.found
  pub told : asked.json ≡ false → IsTextOn test asked.question answer.text.items

-- the test that is asked about is refused so
pub record IsPlanRefused (text : List ℕ) (asked : Asked) (fault : PlanFault) : Type 0 where
  pub test : Litmus
  pub about : IsAskedAbout text asked test
  pub refused : IsRefusal test fault

-- the text spells a test, and the other condition that is asked about is none of it: with it there is a first fault
pub record HasOtherCondition (text : List ℕ) (asked : Asked) : Type 0 where
  pub test : Litmus
  pub spelled : Spells text test
  pub other : asked.condition ≢ None
  pub changed : List ℕ
  pub is_changed : IfSome asked.condition (λ condition. IsTextWith test condition.now changed)
  pub fault : ReadFault
  pub refused : IsFirstFault changed fault.kind fault.line

-- what a fault says of the text and of what is asked
abbrev pub IsFaultOn : List ℕ → Asked → ReasonFault → Type 0
IsFaultOn text asked (faults.Read fault) = IsFirstFault text fault.kind fault.line
IsFaultOn text asked (faults.Plan fault) = IsPlanRefused text asked fault
IsFaultOn text asked faults.Condition = HasOtherCondition text asked
IsFaultOn text asked faults.OutOfMemory = Unit {0}

-- the text of an answer to what is asked, which says whether there is a choice as it is asked for
pub record IsReasonOn (text : List ℕ) (asked : Asked) (found : Bool) (bytes : List ℕ) : Type 0 where
  pub answer : Answer
  pub on : HasAnswerOn text asked answer
  pub finds : answer.found ≡ found
  pub is : bytes ≡ answer.text.items
