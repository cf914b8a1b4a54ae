-- What a call that explains hands out (this project's own).
use Rattle.std.specs.Prelude.{◌≡◌, ◌≢◌, ◌⊎◌, ◌≤◌, ◌<◌, ℕ, List, [], None, IfSome}
use Rattle.lit_reason.specs.declared.fault.ReasonFault.{ReasonFault}
use Rattle.lit_reason.specs.declared.fault.ReasonFault.TheVariants as faults
use Rattle.lit_reason.specs.declared.question.Asked.{Asked}
use Rattle.lit_reason.specs.declared.question.Question.{Question}
use Rattle.lit_reason.specs.declared.question.Question.TheVariants.{InClass, OfChoice, OfSources, Race}
use Rattle.lit_reason.specs.declared.question.TheConstants.{MOST_LIMIT}
use Rattle.lit_reason.specs.Explained.{IsFaultOn}
use Rattle.lit_valid.specs.declared.class.Class.TheVariants.{Met, Unmet}
use Rattle.lit_report.specs.RefusalText.{plan_fault_line, read_fault_line}

-- the question about the choice that these words select
abbrev pub IsOfWords : List ℕ → Question → Type 0
IsOfWords words (OfSources given) = given.now ≡ words
IsOfWords words (InClass class) = ⊥
IsOfWords words Race = ⊥
IsOfWords words (OfChoice choice) = ⊥

-- the question with a number; one takes the number of a choice, and one words
pub record IsQuestionOf (number choice : ℕ) (words : List ℕ) (question : Question) : Type 0 where
  pub met : number ≡ 0 → question ≡ InClass Met
  pub unmet : number ≡ 1 → question ≡ InClass Unmet
  pub race : number ≡ 2 → question ≡ Race
  pub of_choice : number ≡ 3 → question ≡ OfChoice choice
  pub of_words : number ≡ 4 → IsOfWords words question
  pub known : number ≤ 4

-- what the arguments of a call ask for: this question, of the text's condition where none is given, and else of that one
pub record AsksFor (number choice : ℕ) (words condition : List ℕ) (asked : Asked) : Type 0 where
  pub question : IsQuestionOf number choice words asked.question
  pub own : condition ≡ [] → asked.condition ≡ None
  pub other : condition ≢ [] → IfSome asked.condition (λ given. given.now ≡ condition) × (asked.condition ≢ None)

-- what may not be asked: a question with such a number, words or a condition may be none, and so many attempts are too many
abbrev pub MayNotAsk : (number : ℕ) → (condition : List ℕ) → (most : ℕ) → Type 0
MayNotAsk number condition most = (4 ≤ number) ⊎ (condition ≢ []) ⊎ (MOST_LIMIT < most)

-- the line of a refusal, and of no other fault
abbrev pub IsLineOf : ReasonFault → List ℕ → Type 0
IsLineOf (faults.Read fault) bytes = bytes ≡ read_fault_line fault
IsLineOf (faults.Plan fault) bytes = bytes ≡ plan_fault_line fault
IsLineOf faults.Condition bytes = ⊥
IsLineOf faults.OutOfMemory bytes = ⊥

-- the line of what refuses the text
pub record IsRefusalOn (text : List ℕ) (asked : Asked) (bytes : List ℕ) : Type 0 where
  pub fault : ReasonFault
  pub on : IsFaultOn text asked fault
  pub is : IsLineOf fault bytes

-- what such a call can give as a status
abbrev pub IsWhyStatus : ℕ → Type 0
IsWhyStatus n = (n ≡ 0) ⊎ (n ≡ 1) ⊎ (n ≡ 2) ⊎ (n ≡ 3)
