-- The text of a choice's example: its entry in a report (this project's own).
use Rattle.std.specs.Prelude.{◌≡◌, ◌⊎◌, ℕ, List, []}
use Rattle.lit_syntax.specs.Syntax.{Litmus}
use Rattle.lit_valid.specs.Entry.{Entry}
use Rattle.lit_valid.specs.Gives.{Gives, HasLeastOrder}
use Rattle.lit_report.specs.EntryText.{entry_text}

-- the outcome of choice n, and the least memory-order of its valid executions
pub record IsEntryOf (t : Litmus) (n : ℕ) (entry : Entry) : Type 0 where
  pub chosen : entry.choice ≡ n
  pub gives : Gives t n entry.outcome
  pub least_order : HasLeastOrder t n entry.order

-- no valid execution has choice n
abbrev pub HasNoOutcome : Litmus → ℕ → Type 0
HasNoOutcome t n = (outcome : List ℕ) → ¬ Gives t n outcome

-- the text of choice n's entry, or nothing where no valid execution has the choice
abbrev pub IsExampleText : Litmus → ℕ → List ℕ → Type 0
IsExampleText t n text =
    ((entry : Entry) × IsEntryOf t n entry × (text ≡ entry_text t entry)) ⊎ (HasNoOutcome t n × (text ≡ []))
