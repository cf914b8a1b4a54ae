-- Which execution is shown of those that meet a goal: the one that mixes sources least (this project's own).
use Rattle.std.specs.Prelude.{◌≡◌, ◌⊎◌, ℕ, ◌<◌, List, Some, length, map, slice_get}
use Rattle.lit_syntax.specs.Syntax.{Litmus}
use Rattle.lit_paths.specs.ByteReads.{byte_reads}
use Rattle.lit_paths.specs.Choice.{combinations_of}
use Rattle.lit_paths.specs.Event.{event_at}
use Rattle.lit_paths.specs.Execution.{Execution}
use Rattle.lit_paths.specs.Plan.{combination_at, events_in}
use Rattle.lit_paths.specs.Run.{run_path}
use Rattle.lit_paths.specs.declared.event.Event.{Event}
use Rattle.lit_paths.specs.declared.event.Order3.TheVariants.{Init}
use Rattle.lit_order.specs.MemoryOrder.{IsLeastMemoryOrder}
use Rattle.lit_valid.specs.ValidExecution.{IsValidExecution}
use Rattle.lit_solve.specs.Goal.{MeetsGoal}
use Rattle.lit_solve.specs.declared.goal.Goal.{Goal}
use Rattle.lit_why.specs.Attempts.{IsOn}

-- each byte of read r has a source of which this holds
abbrev pub AreTakenFrom : List Event → List ℕ → ℕ → (ℕ → Type 0) → Type 0
AreTakenFrom events sources r holds =
    (k b w : ℕ) → slice_get (byte_reads events) k ≡ Some (r, b) → slice_get sources k ≡ Some w → holds w

-- the sources of read r don't mix: its bytes are all from init, or all from one event
abbrev pub IsUnmixed : List Event → List ℕ → ℕ → Type 0
IsUnmixed events sources r =
    AreTakenFrom events sources r (λ w. (event_at events w).order ≡ Init) ⊎ ((e : ℕ) × AreTakenFrom events sources r (λ w. w ≡ e))

-- the bytes of the reads before read r have the same sources
abbrev pub AgreeBefore : List Event → ℕ → List ℕ → List ℕ → Type 0
AgreeBefore events r some other =
    (k q b : ℕ) → slice_get (byte_reads events) k ≡ Some (q, b) → q < r → slice_get some k ≡ slice_get other k

-- the first byte of read r whose sources differ has the lesser source in the first list
pub record IsLessOn (events : List Event) (r : ℕ) (some other : List ℕ) : Type 0 where
  pub place : ℕ
  pub byte : ℕ
  pub is_read : slice_get (byte_reads events) place ≡ Some (r, byte)
  pub source : ℕ
  pub other_source : ℕ
  pub has : slice_get some place ≡ Some source
  pub has_other : slice_get other place ≡ Some other_source
  pub less : source < other_source
  pub same : (k b : ℕ) → k < place → slice_get (byte_reads events) k ≡ Some (r, b) → slice_get some k ≡ slice_get other k

-- Of the lists that have the same sources for the reads before read r, those stand first that don't mix its sources, and of those that do
-- or of those that don't, the one with the least.
pub record IsFirstOn (events : List Event) (holds : List ℕ → Type 0) (sources : List ℕ) (r : ℕ) : Type 0 where
  pub unmixed : (other : List ℕ) → holds other → AgreeBefore events r sources other → IsUnmixed events other r
      → IsUnmixed events sources r
  pub least : (other : List ℕ) → holds other → AgreeBefore events r sources other
      → (IsUnmixed events sources r → IsUnmixed events other r) → ¬ IsLessOn events r other sources

-- the first of the lists of which this holds, read by read
pub record IsLeastMixing (events : List Event) (holds : List ℕ → Type 0) (sources : List ℕ) : Type 0 where
  pub among : holds sources
  pub first : (r : ℕ) → r < length events → IsFirstOn events holds sources r

-- some valid execution on combination c has these sources, and meets the goal
pub record GivesOn (t : Litmus) (goal : Goal) (c : ℕ) (sources : List ℕ) : Type 0 where
  pub known : c < length (combinations_of t)
  pub execution : Execution
  pub valid : IsValidExecution t execution
  pub on_paths : map run_path execution.runs ≡ combination_at t c
  pub meets : MeetsGoal t goal execution
  pub same : execution.sources ≡ sources

-- no valid execution on combination c meets the goal
abbrev pub HasNoneOn : Litmus → Goal → ℕ → Type 0
HasNoneOn t goal c = (sources : List ℕ) → ¬ GivesOn t goal c sources

-- choice n is on combination c. Of the sources of valid executions on it that meet the goal it has those that mix least, and the order is
-- the least memory-order with them.
pub record IsShownOn (t : Litmus) (goal : Goal) (c n : ℕ) (sources order : List ℕ) : Type 0 where
  pub on : IsOn t n c sources
  pub mixes_least : IsLeastMixing (events_in t c) (GivesOn t goal c) sources
  pub ordered : IsLeastMemoryOrder (events_in t c) sources order

-- the same of the first combination with a valid execution that meets the goal
pub record IsShown (t : Litmus) (goal : Goal) (n : ℕ) (sources order : List ℕ) : Type 0 where
  pub combination : ℕ
  pub is_shown : IsShownOn t goal combination n sources order
  pub first : (c : ℕ) → c < combination → HasNoneOn t goal c
