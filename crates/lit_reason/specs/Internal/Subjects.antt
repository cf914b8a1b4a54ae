-- What an answer is about, and why a test has none (this project's own).
use Rattle.std.specs.Prelude.{◌≡◌, ℕ, ◌<◌, Bool, true, false, cond, nat_lt, List, codes, length, ⊤}
use Rattle.lit_syntax.specs.Syntax.{Litmus}
use Rattle.lit_paths.specs.Choice.{choices_of}
use Rattle.lit_paths.specs.Refusal.{IsRefusal}
use Rattle.lit_report.specs.EntryText.{line}
use Rattle.lit_reason.specs.AnswerText.{HasBehind, IsChoiceText, IsClassText, IsRaceText, no_choice_line, test_line}
use Rattle.lit_reason.specs.declared.explanation.Subject.{Subject}
use Rattle.lit_reason.specs.declared.explanation.Subject.TheVariants as subjects
use Rattle.lit_reason.specs.declared.fault.ReasonFault.{ReasonFault}
use Rattle.lit_reason.specs.declared.fault.ReasonFault.TheVariants as faults
use Rattle.lit_reason.specs.declared.question.Question.{Question}
use Rattle.lit_reason.specs.declared.question.Question.TheVariants.{InClass, Race, OfChoice, OfSources}

-- a choice that the words select, or none
abbrev pub IsSelected : Litmus → Subject → Type 0
IsSelected t (subjects.InClass class) = ⊥
IsSelected t subjects.Race = ⊥
IsSelected t (subjects.OfChoice choice) = choice < length (choices_of t)
IsSelected t subjects.OfNoNumber = ⊥
IsSelected t subjects.OfNoSources = ⊤

-- what a question is about on a test; of the words for sources nothing is said but that a choice is one of the test's
abbrev pub IsSubjectOf : Litmus → Question → Subject → Type 0
IsSubjectOf t (InClass class) subject = subject ≡ subjects.InClass class
IsSubjectOf t Race subject = subject ≡ subjects.Race
IsSubjectOf t (OfChoice choice) subject =
    subject ≡ cond (nat_lt choice (length (choices_of t))) (subjects.OfChoice choice) subjects.OfNoNumber
IsSubjectOf t (OfSources words) subject = IsSelected t subject

-- whether it is a choice as it is asked for, where it is about one
abbrev pub is_found : Subject → Bool
is_found (subjects.InClass class) = true
is_found subjects.Race = true
is_found (subjects.OfChoice choice) = true
is_found subjects.OfNoNumber = false
is_found subjects.OfNoSources = false

-- a choice is one of the test's
abbrev pub IsKnown : Litmus → Subject → Type 0
IsKnown t (subjects.InClass class) = ⊤
IsKnown t subjects.Race = ⊤
IsKnown t (subjects.OfChoice choice) = choice < length (choices_of t)
IsKnown t subjects.OfNoNumber = ⊤
IsKnown t subjects.OfNoSources = ⊤

-- the text of an answer about it
abbrev pub IsSubjectText : Litmus → Subject → List ℕ → Type 0
IsSubjectText t (subjects.InClass class) text = HasBehind (test_line t) (IsClassText t class) text
IsSubjectText t subjects.Race text = HasBehind (test_line t) (IsRaceText t) text
IsSubjectText t (subjects.OfChoice choice) text = HasBehind (test_line t) (IsChoiceText t choice) text
IsSubjectText t subjects.OfNoNumber text = text ≡ no_choice_line t
IsSubjectText t subjects.OfNoSources text = text ≡ line (codes "no choice has these sources")

-- why a test has no answer
abbrev pub IsTestFault : Litmus → ReasonFault → Type 0
IsTestFault t (faults.Read fault) = ⊥
IsTestFault t (faults.Plan fault) = IsRefusal t fault
IsTestFault t faults.Condition = ⊥
IsTestFault t faults.OutOfMemory = Unit {0}
