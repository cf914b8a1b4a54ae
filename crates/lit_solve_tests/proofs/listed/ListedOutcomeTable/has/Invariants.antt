use Rattle.std.proofs.Common.{◌≡◌, ℕ, ◌<◌, Some}
use Rattle.std.specs.List.{slice_get}
use Rattle.lit_solve_tests.specs.declared.listed.Recorded.{Recorded}
use Rattle.lit_solve_tests.proofs.listed.ListedOutcomeTable.has.Given as goal

abbrev pub invariant-loop-row : goal.invariant-loop-row
invariant-loop-row l = (k : ℕ) (row : Recorded) → k < l.row-index → slice_get l.row-items k ≡ Some row → ¬ (row.outcome.items ≡ l.outcome)
