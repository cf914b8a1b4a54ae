-- Completions of a box: the valid executions on its combination whose every source lies in its domain (this project's own).
use Rattle.std.specs.Prelude.{◌≡◌, ◌≢◌, ℕ, List, map}
use Rattle.std.specs.Cmp.Lexicographic.{slice_cmp}
use Rattle.std.specs.Ordering.{nat_cmp}
use Rattle.std.specs.declared.cmp.Ordering.TheVariants.{Less}
use Rattle.lit_paths.specs.Execution.{Execution}
use Rattle.lit_paths.specs.Plan.{combination_at}
use Rattle.lit_paths.specs.Run.{run_path}
use Rattle.lit_order.specs.MemoryOrder.{IsLeastMemoryOrder}
use Rattle.lit_valid.specs.ValidExecution.{IsValidExecution}
use Rattle.lit_solve.specs.declared.goal.Goal.{Goal}
use Rattle.lit_solve.specs.Box.{Box, LiesIn, box_events}
use Rattle.lit_solve.specs.Goal.{MeetsGoal}

pub record IsCompletion (box : Box) (x : Execution) : Type 0 where
  pub valid : IsValidExecution box.test x
  pub on_paths : map run_path x.runs ≡ combination_at box.test box.combination
  pub within : LiesIn box x.sources

-- a solution: a completion that meets the goal
pub record IsSolution (box : Box) (goal : Goal) (x : Execution) : Type 0 where
  pub completes : IsCompletion box x
  pub meets : MeetsGoal box.test goal x

-- the box has a solution
abbrev pub HasSolution : Box → Goal → Type 0
HasSolution box goal = (x : Execution) × IsSolution box goal x

-- The sources of a solution, which are the least as a list, and the least memory-order with them.
pub record IsLeastSolution (box : Box) (goal : Goal) (sources order : List ℕ) : Type 0 where
  pub execution : Execution
  pub solves : IsSolution box goal execution
  pub same : execution.sources ≡ sources
  pub least : (x : Execution) → IsSolution box goal x → slice_cmp nat_cmp x.sources sources ≢ Less
  pub ordered : IsLeastMemoryOrder (box_events box) sources order
