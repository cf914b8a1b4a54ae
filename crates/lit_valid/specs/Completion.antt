-- Completions of a part: the valid executions whose sources begin with its sources (this project's own).
use Rattle.std.specs.Prelude.{◌≡◌, ℕ, ◌<◌, List, ◌++◌, length, map}
use Rattle.lit_syntax.specs.Syntax.{IsLitmus}
use Rattle.lit_paths.specs.Choice.{combinations_of}
use Rattle.lit_paths.specs.Execution.{Execution}
use Rattle.lit_paths.specs.Plan.{combination_at}
use Rattle.lit_paths.specs.Run.{run_path}
use Rattle.lit_rel.specs.Part.{PartModel}
use Rattle.lit_valid.specs.ValidExecution.{IsValidExecution}

-- the part is of a combination of a test that a text can say
pub record IsOnCombination (part : PartModel) : Type 0 where
  pub litmus : IsLitmus part.test
  pub known : part.combination < length (combinations_of part.test)

-- a valid execution on the part's paths whose sources begin with those given
pub record Completes (part : PartModel) (x : Execution) : Type 0 where
  pub valid : IsValidExecution part.test x
  pub on_paths : map run_path x.runs ≡ combination_at part.test part.combination
  pub rest : List ℕ
  pub begun : x.sources ≡ part.sources ++ rest

-- the part has a completion
abbrev pub HasCompletion : PartModel → Type 0
HasCompletion part = (x : Execution) × Completes part x
