-- A run of an agent: chosen values, one for each reading statement met (ECMA-262, 2024, 29.3), the path on which
-- every decision agrees with them, and what its registers hold at the end (registers are this project's own).
use Rattle.std.specs.Prelude.{◌≡◌, ℕ, ◌==◌, Bool, true, false, not, List, [], ◌∷◌, Contains, replicate, slice_index, slice_set}
use Rattle.lit_syntax.specs.declared.limits.TheConstants.{REGISTERS}
use Rattle.lit_syntax.specs.Syntax.{Statements}
use Rattle.lit_paths.specs.declared.event.Event.{Event}
use Rattle.lit_paths.specs.Path.{Step, LoadMet, StoreMet, ExchangeMet, CompareExchangeMet, IfMet, Path, path_on, walks_of}

-- whether two numbers are equal, or with `false`, whether they differ
abbrev pub compares : Bool → ℕ → ℕ → Bool
compares true a b = a == b
compares false a b = not (a == b)

-- The decisions on the way agree with the chosen values, from the first registers to the second: a reading statement
-- puts its value into its register, a compareExchange succeeds where its value is the expected one, and the comparison
-- of an `if` is of what its register holds now.
abbrev pub AgreesWith : List Step → (before values after : List ℕ) → Type 0
AgreesWith [] before values after = (values ≡ []) × (after ≡ before)
AgreesWith (LoadMet reg window index atomic ∷ steps) before values after =
    (value : ℕ) × (others : List ℕ) × (values ≡ value ∷ others) × AgreesWith steps (slice_set before reg value) others after
AgreesWith (StoreMet window index stored atomic ∷ steps) before values after = AgreesWith steps before values after
AgreesWith (ExchangeMet reg window index stored ∷ steps) before values after =
    (value : ℕ) × (others : List ℕ) × (values ≡ value ∷ others) × AgreesWith steps (slice_set before reg value) others after
AgreesWith (CompareExchangeMet reg window index expected stored succeeds ∷ steps) before values after =
    (value : ℕ) × (others : List ℕ) × (values ≡ value ∷ others) × (succeeds ≡ (value == expected))
    × AgreesWith steps (slice_set before reg value) others after
AgreesWith (IfMet reg equal value holds ∷ steps) before values after =
    (holds ≡ compares equal (slice_index before reg) value) × AgreesWith steps before values after

-- the values chosen, the path on which they are, and what each register holds at the end
pub record Run : Type 0 where
  pub values : List ℕ
  pub decisions : List ℕ
  pub events : List Event
  pub registers : List ℕ

-- the path that a run is on
abbrev pub run_path : Run → Path
run_path run = record { decisions = run.decisions; events = run.events }

-- A path of the agent, and values with which each decision on it agrees. Registers hold 0 until they are written.
pub record IsRun (owner : ℕ) (body : Statements) (run : Run) : Type 0 where
  pub steps : List Step
  pub walked : Contains (walks_of body) steps
  pub taken : path_on owner steps ≡ run_path run
  pub agrees : AgreesWith steps (replicate REGISTERS 0) run.values run.registers
