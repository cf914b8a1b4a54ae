-- Reports that have the outcome of a schedule (this project's own).
use Rattle.std.specs.Prelude.{◌≡◌, ℕ, Some, List, slice_get}
use Rattle.lit_syntax.specs.Syntax.{Litmus}
use Rattle.lit_interleave.specs.Interleaving.{interleaved}
use Rattle.lit_search.specs.Report.{Entry, Report}

-- the report has the outcome of the schedule
abbrev pub IsReported : Litmus → List ℕ → Report → Type 0
IsReported t schedule report =
    (i : ℕ) × (entry : Entry) × (slice_get report.entries i ≡ Some entry) × (entry.outcome ≡ interleaved t schedule)
