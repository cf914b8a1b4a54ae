-- What the valid executions of a choice give (this project's own): outcomes, least memory-orders, and data races.
use Rattle.std.specs.Prelude.{◌≡◌, ℕ, List, Some, slice_get}
use Rattle.lit_syntax.specs.Syntax.{Litmus}
use Rattle.lit_paths.specs.Choice.{choices_of}
use Rattle.lit_paths.specs.Execution.{Execution, execution_events, execution_choice, execution_outcome}
use Rattle.lit_rel.specs.DataRace.{HasDataRace}
use Rattle.lit_order.specs.MemoryOrder.{IsLeastMemoryOrder}
use Rattle.lit_valid.specs.ValidExecution.{IsValidExecution}

-- Some valid execution has the choice with this number, and this outcome.
pub record Gives (t : Litmus) (n : ℕ) (outcome : List ℕ) : Type 0 where
  pub execution : Execution
  pub valid : IsValidExecution t execution
  pub chosen : slice_get (choices_of t) n ≡ Some (execution_choice execution)
  pub result : execution_outcome t execution ≡ outcome

-- The order is the least memory-order of every valid execution with this choice.
abbrev pub HasLeastOrder : Litmus → ℕ → List ℕ → Type 0
HasLeastOrder t n order = (x : Execution) → IsValidExecution t x → slice_get (choices_of t) n ≡ Some (execution_choice x)
    → IsLeastMemoryOrder (execution_events t x) x.sources order

-- Some valid execution with a data race has the choice with this number.
pub record GivesRace (t : Litmus) (n : ℕ) : Type 0 where
  pub execution : Execution
  pub valid : IsValidExecution t execution
  pub chosen : slice_get (choices_of t) n ≡ Some (execution_choice execution)
  pub races : HasDataRace (execution_events t execution) execution.sources
