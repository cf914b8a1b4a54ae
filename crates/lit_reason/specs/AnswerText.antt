-- The text of an answer, as bytes: what it says of the test holds, and what it shows of an execution is printed as a report prints it
-- (this project's own).
use Rattle.std.specs.Prelude.{◌≡◌, ◌⊎◌, ℕ, ◌-◌, ◌<◌, ◌≤◌, List, ◌++◌, codes, length}
use Rattle.std.specs.Fmt.{decimal}
use Rattle.lit_syntax.specs.Syntax.{Litmus}
use Rattle.lit_paths.specs.Choice.{choices_of}
use Rattle.lit_paths.specs.Event.{event_at}
use Rattle.lit_paths.specs.Plan.{HasSources, IsOfCombination}
use Rattle.lit_rel.specs.Part.{IsComplete, PartModel, part_events}
use Rattle.lit_valid.specs.declared.class.Class.{Class}
use Rattle.lit_valid.specs.declared.class.Class.TheVariants.{Met, Unmet}
use Rattle.lit_valid.specs.Class.{GivesClass}
use Rattle.lit_valid.specs.Entry.{Entry}
use Rattle.lit_valid.specs.Gives.{GivesRace}
use Rattle.lit_solve.specs.declared.goal.Goal.{Goal}
use Rattle.lit_solve.specs.declared.goal.Goal.TheVariants as goals
use Rattle.lit_report.specs.EntryText.{choice_lines, entry_text, event_name, line}
use Rattle.lit_why.specs.LeastMixing.{IsShown}
use Rattle.lit_why.specs.RacingPair.{IsLeastRacingPair}
use Rattle.lit_why.specs.Refusal.{IsRefusal}
use Rattle.lit_why.specs.declared.racing.RacingPair.{RacingPair}
use Rattle.lit_why.specs.declared.refusals.causes.Refusal.{Refusal}
use Rattle.lit_why.specs.declared.refusals.causes.Refusal.TheVariants.{BeforeItself, FalseGuard, Incoherent, NoOrder, Torn}
use Rattle.lit_reason.specs.declared.clauses.Clause.{Clause}
use Rattle.lit_reason.specs.declared.clauses.Clause.TheVariants.{CoherentReads, HappensBefore, MemoryOrder, Paths, TearFreeReads}
use Rattle.lit_reason.specs.declared.question.Question.{Question}
use Rattle.lit_reason.specs.declared.question.Question.TheVariants.{InClass, OfChoice, OfSources, Race}
use Rattle.lit_reason.specs.Example.{HasNoOutcome, IsEntryOf}

-- the text has this line, and behind it one of which this holds
abbrev pub HasBehind : (first : List ℕ) → (List ℕ → Type 0) → List ℕ → Type 0
HasBehind first holds text = (rest : List ℕ) × (text ≡ first ++ rest) × holds rest

-- the line that answers begin with
abbrev pub test_line : Litmus → List ℕ
test_line t = line (codes "test " ++ t.name)

-- ---- executions
-- the entry of choice n, which is the one to show of those that a valid execution which meets the goal has
pub record IsShownText (t : Litmus) (goal : Goal) (n : ℕ) (text : List ℕ) : Type 0 where
  pub sources : List ℕ
  pub order : List ℕ
  pub shown : IsShown t goal n sources order
  pub entry : Entry
  pub is_entry : IsEntryOf t n entry
  pub is : text ≡ entry_text t entry

-- a complete part, with the paths and the sources of choice n
pub record IsPartOf (t : Litmus) (n : ℕ) (part : PartModel) : Type 0 where
  pub test : part.test ≡ t
  pub of : IsOfCombination part.test n part.combination
  pub has : HasSources part.test n part.sources
  pub complete : IsComplete part

-- ---- of a class
abbrev pub verdict_without : Class → List ℕ
verdict_without Met = codes "never"
verdict_without Unmet = codes "always"

-- no valid execution has an outcome in the class: the verdict, and why
pub record IsVerdictText (t : Litmus) (class : Class) (text : List ℕ) : Type 0 where
  pub none : (n : ℕ) → ¬ GivesClass t class n
  pub why : List ℕ
  pub is : text ≡ verdict_without class ++ codes ": " ++ why

-- an example where some valid execution has an outcome in the class, and else the verdict
abbrev pub IsClassText : Litmus → Class → List ℕ → Type 0
IsClassText t class text =
    ((n : ℕ) × GivesClass t class n × IsShownText t (goals.OfClass class) n text) ⊎ IsVerdictText t class text

-- ---- of data races
-- the least pair that is in a data race in the execution that is shown, each event with some words behind it, and that execution
pub record IsPairText (t : Litmus) (n : ℕ) (text : List ℕ) : Type 0 where
  pub part : PartModel
  pub is_part : IsPartOf t n part
  pub pair : RacingPair
  pub is_racing : IsLeastRacingPair part pair
  pub words : List ℕ
  pub other_words : List ℕ
  pub example : List ℕ
  pub shown : IsShownText t goals.Race n example
  pub is : text ≡ codes "data race " ++ event_name t (event_at (part_events part) pair.first) ++ words
      ++ codes " and " ++ event_name t (event_at (part_events part) pair.second) ++ other_words ++ example

-- where some valid execution has a data race, the first one, and else that there is none
abbrev pub IsRaceText : Litmus → List ℕ → Type 0
IsRaceText t text = ((n : ℕ) × GivesRace t n × IsPairText t n text) ⊎ (((n : ℕ) → ¬ GivesRace t n) × (text ≡ line (codes "data race no")))

-- ---- of choices
-- the clause that refuses something
abbrev pub clause_of : Refusal → Clause
clause_of (FalseGuard agent place) = Paths
clause_of (BeforeItself event) = HappensBefore
clause_of (Incoherent read byte source cause) = CoherentReads
clause_of (Torn read source other) = TearFreeReads
clause_of NoOrder = MemoryOrder

abbrev pub name_of : Clause → List ℕ
name_of Paths = codes "paths"
name_of HappensBefore = codes "happens-before"
name_of CoherentReads = codes "coherent-reads"
name_of TearFreeReads = codes "tear-free-reads"
name_of MemoryOrder = codes "memory-order"

-- where ECMA-262 (2024) has the clause
abbrev pub section_of : Clause → List ℕ
section_of Paths = codes "the guards of the paths"
section_of HappensBefore = codes "29.7.5 valid executions"
section_of CoherentReads = codes "29.7.2 coherent reads"
section_of TearFreeReads = codes "29.7.3 tear free reads"
section_of MemoryOrder = codes "29.7.4 sequentially consistent atomics"

abbrev pub refused_line : Clause → List ℕ
refused_line clause = line (codes "refused by " ++ name_of clause ++ codes " (" ++ section_of clause ++ codes ")")

-- no valid execution has choice n: the first clause that its paths and sources break, its sources, and why
pub record IsRefusedText (t : Litmus) (n : ℕ) (text : List ℕ) : Type 0 where
  pub none : HasNoOutcome t n
  pub part : PartModel
  pub is_part : IsPartOf t n part
  pub refusal : Refusal
  pub is_refusal : IsRefusal part refusal
  pub why : List ℕ
  pub is : text ≡ refused_line (clause_of refusal) ++ choice_lines t n ++ why

-- some valid execution has choice n: its entry
pub record IsValidText (t : Litmus) (n : ℕ) (text : List ℕ) : Type 0 where
  pub entry : Entry
  pub is_entry : IsEntryOf t n entry
  pub is : text ≡ line (codes "valid") ++ entry_text t entry

abbrev pub choice_line : Litmus → ℕ → List ℕ
choice_line t n = line (codes "choice " ++ decimal n ++ codes " of 0 to " ++ decimal (length (choices_of t) - 1))

abbrev pub IsChoiceText : Litmus → ℕ → List ℕ → Type 0
IsChoiceText t n = HasBehind (choice_line t n) (λ text. IsValidText t n text ⊎ IsRefusedText t n text)

-- ---- of a question
-- the numbers of the choices that there are
abbrev pub no_choice_line : Litmus → List ℕ
no_choice_line t = line (codes "no such choice: they are 0 to " ++ decimal (length (choices_of t) - 1))

-- a choice that the words select, or none; which one they select is not said
abbrev pub IsSelectedText : Litmus → List ℕ → Type 0
IsSelectedText t text =
    ((n : ℕ) × (n < length (choices_of t)) × HasBehind (test_line t) (IsChoiceText t n) text)
    ⊎ (text ≡ line (codes "no choice has these sources"))

-- the text of the answer to a question on a test
abbrev pub IsTextOn : Litmus → Question → List ℕ → Type 0
IsTextOn t (InClass class) text = HasBehind (test_line t) (IsClassText t class) text
IsTextOn t Race text = HasBehind (test_line t) (IsRaceText t) text
IsTextOn t (OfChoice n) text =
    (n < length (choices_of t) → HasBehind (test_line t) (IsChoiceText t n) text) × (length (choices_of t) ≤ n → text ≡ no_choice_line t)
IsTextOn t (OfSources words) text = IsSelectedText t text
